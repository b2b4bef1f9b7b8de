-- Lemmas.
pub mod Lenients
pub mod Behind
pub mod Numbers
pub mod Passings
