-- Lemmas.
pub mod Scanning
pub mod Agreeing
pub mod Reading
pub mod Header
