-- The definitions that contracts cite.
pub mod Written
pub mod Literal
pub mod Numpy
pub mod Laws
