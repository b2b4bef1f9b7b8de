-- The definitions that contracts cite.
pub mod Gate
pub mod Kept
pub mod Line
pub mod Packed
pub mod Quiet
pub mod Verdict
