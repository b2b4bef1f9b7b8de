-- Lemmas that the proofs of several functions cite.
pub mod Noting
pub mod Reaching
