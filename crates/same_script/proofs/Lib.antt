-- Lemmas that the proofs of several functions cite.
pub mod Ends
