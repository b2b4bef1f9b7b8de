-- The definitions that contracts cite.
pub mod Acts
pub mod Same
pub mod Halves
pub mod Laws
pub mod Telling
