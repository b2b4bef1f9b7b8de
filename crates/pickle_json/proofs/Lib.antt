-- Lemmas that the proofs of several functions cite.
mod Lines
mod Pieces
mod Listed
mod Cuts
mod Steps
pub mod Readable
mod ReachReadable
pub mod FormReadable
mod Agreeing
