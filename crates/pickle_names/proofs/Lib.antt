-- Lemmas.
mod Numbers
mod Plain
mod Quotes
mod Unmapped
mod Turns
