-- Lemmas that the proofs of several functions cite.
pub mod Strings
pub mod Lines
mod Units
mod Tokens
mod Trees
mod Printing
pub mod Fields
pub mod Nested
pub mod Wholes
