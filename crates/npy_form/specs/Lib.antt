-- The definitions that contracts cite.
pub mod Outcome
pub mod Text
pub mod Item
pub mod Shape
pub mod Npy
