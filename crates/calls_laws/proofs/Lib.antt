-- Lemmas that the proofs of several functions cite.
pub mod Reaches
pub mod Exact
pub mod LinesApart
pub mod FirstLines
pub mod WithinLines
pub mod TextLines
pub mod QuotesApart
pub mod OneEvent
pub mod Imports
