-- The definitions that contracts cite.
pub mod ObjectFields
pub mod Objects
pub mod Readable
pub mod Agreeing
