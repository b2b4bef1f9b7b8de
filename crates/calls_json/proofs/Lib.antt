-- Lemmas that the proofs of several functions cite.
mod Texts
mod Values
mod Looked
mod Events
mod Answers
mod Readable
mod LastReadable
mod Whole
