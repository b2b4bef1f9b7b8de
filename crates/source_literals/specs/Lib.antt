-- The definitions that contracts cite.
pub mod Floats
pub mod Spelling
pub mod Naming
