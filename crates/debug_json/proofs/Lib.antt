-- Lemmas that the proofs of several functions cite.
pub mod Askings
pub mod Arrays
pub mod Ranges
pub mod Offsets
pub mod Picks
pub mod Memos
pub mod Itemized
pub mod Obeyed
pub mod Answering
pub mod Stepping
pub mod Making
mod Printed
mod Agreeing
mod Readable
