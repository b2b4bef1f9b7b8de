-- The definitions that contracts cite.
pub mod Device
pub mod Wrapped
pub mod Whole
pub mod Text
pub mod Holes
pub mod HoleLaws
