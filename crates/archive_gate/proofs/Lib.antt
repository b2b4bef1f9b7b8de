-- Lemmas.
pub mod Deciding
pub mod Nothing
pub mod Passing
pub mod Tars
