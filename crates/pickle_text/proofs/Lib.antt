-- Lemmas that the proofs of several functions cite.
pub mod Lengths
pub mod Moves
pub mod Places
pub mod Spaces
pub mod Runs
pub mod Parts
pub mod Sources
