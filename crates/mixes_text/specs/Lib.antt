-- The definitions that contracts cite.
pub mod MixText
pub mod CallsWith
