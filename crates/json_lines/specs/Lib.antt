-- The definitions that contracts cite.
pub mod Json
pub mod Line
pub mod Readable
