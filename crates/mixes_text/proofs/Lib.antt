-- Lemmas.
pub mod Lines
pub mod Wholes
