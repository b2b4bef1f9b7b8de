-- Lemmas that the proofs of several functions cite.
pub mod Pairs
pub mod Slices
pub mod Stacks
