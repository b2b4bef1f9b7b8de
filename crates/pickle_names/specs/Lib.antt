-- The definitions that contracts cite.
pub mod Coding
pub mod Value
pub mod Reading
pub mod Renamed
