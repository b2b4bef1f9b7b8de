-- The definitions that contracts cite.
pub mod Mixed
pub mod Reached
pub mod Filed
pub mod Told
pub mod Placed
