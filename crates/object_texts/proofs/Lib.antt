-- Lemmas that the proofs of several functions cite.
pub mod Reported
pub mod ReportPieces
pub mod Objects
pub mod Walks
pub mod Stacks
pub mod Memos
pub mod Reports
pub mod Stepping
pub mod Rereading
