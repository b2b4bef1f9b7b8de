-- Lemmas.
pub mod Changes
mod Heaps
mod Answered
pub mod Readable
mod Agreeing
