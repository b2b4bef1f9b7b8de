-- The definitions that contracts cite.
pub mod Value
pub mod Fact
pub mod Act
pub mod Tale
pub mod Laws
pub mod Inside
