-- Lemmas.
pub mod Steps
pub mod Alike
pub mod Walks
