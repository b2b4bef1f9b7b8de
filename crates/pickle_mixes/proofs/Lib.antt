-- Lemmas.
pub mod Looks
mod Stands
