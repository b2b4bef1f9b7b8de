-- Lemmas that the proofs of several functions cite.
pub mod Plainly
pub mod Reading
mod Escapes
mod Decoding
mod ReadBack
pub mod Numerals
pub mod Floating
pub mod Sizes
pub mod Tens
mod Lawful
