-- Lemmas that the proofs of several functions cite.
pub mod Marks
pub mod Lines
pub mod Codes
pub mod Names
pub mod Listings
pub mod PageLines
pub mod Stops
pub mod Protocols
pub mod Listed
pub mod Apart
pub mod Cuts
pub mod Offsets
