-- Lemmas.
pub mod Going
pub mod Words
pub mod Usual
