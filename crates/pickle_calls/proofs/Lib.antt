-- Lemmas that the proofs of several functions cite.
pub mod Unseen
pub mod Fronts
pub mod Walking
pub mod Steps
pub mod Namings
pub mod Looks
pub mod Turns
pub mod Cutting
