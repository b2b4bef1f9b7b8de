-- Lemmas.
pub mod Contents
