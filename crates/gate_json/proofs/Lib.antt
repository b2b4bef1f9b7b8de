-- Lemmas that the proofs of several functions cite.
pub mod Passing
mod Readable
pub mod MemberLines
