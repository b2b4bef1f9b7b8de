-- Lemmas that the proofs of several functions cite.
mod Nested
mod Leading
pub mod Pieces
pub mod Fars
pub mod FarGoings
pub mod Goings
pub mod Tales
pub mod Partly
pub mod Documents
pub mod Mixing
pub mod Kept
pub mod Behind
pub mod Searches
pub mod Quiets
pub mod PartLines
