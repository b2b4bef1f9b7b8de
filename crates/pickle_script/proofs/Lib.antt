-- Lemmas that the proofs of several functions cite.
pub mod Refusals
pub mod Queries
pub mod Places
pub mod Cuts
pub mod Feeding
pub mod Endings
pub mod Outputs
pub mod FormTexts
pub mod GateTexts
pub mod ReachTexts
pub mod GateLaws
pub mod Flushes
pub mod WordLemmas
pub mod HexWords
pub mod Sayings
pub mod PlaceLemmas
pub mod OneLine
