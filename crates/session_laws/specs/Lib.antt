-- The definitions that contracts cite.
pub mod Transcripts
pub mod Saved
pub mod Edits
pub mod Lines
pub mod Reached
