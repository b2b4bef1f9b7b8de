-- Lemmas.
pub mod Axes
