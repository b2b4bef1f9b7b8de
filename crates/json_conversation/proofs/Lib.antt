-- Lemmas that the proofs of several functions cite.
pub mod Feeding
pub mod Endings
pub mod Flushes
