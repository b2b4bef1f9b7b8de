pub mod Places
pub mod Lines
pub mod Lookups
pub mod Kept
