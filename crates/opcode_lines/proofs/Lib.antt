-- Lemmas.
mod Readable
