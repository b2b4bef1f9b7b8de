-- The definitions that contracts cite.
pub mod File
pub mod Kind
pub mod Itself
pub mod Members
pub mod Tar
