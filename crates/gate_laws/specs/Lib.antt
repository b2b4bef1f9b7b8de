-- The definitions that contracts cite.
pub mod Permitted
pub mod Laws
pub mod Untouched
pub mod Headline
