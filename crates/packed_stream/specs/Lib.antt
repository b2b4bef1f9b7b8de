-- The definitions that contracts cite.
pub mod Adler
pub mod Header
pub mod Packed
pub mod Reader
