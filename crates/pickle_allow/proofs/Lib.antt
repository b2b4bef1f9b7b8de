-- Lemmas.
pub mod Matching
pub mod Last
pub mod Grants
pub mod Cuts
pub mod Reading
pub mod NoImports
pub mod Taking
pub mod Together
