-- The definitions that contracts cite.
pub mod CallsLaws
pub mod LineLaws
