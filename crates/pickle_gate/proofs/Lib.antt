-- Lemmas.
mod Judged
mod Growth
mod Ready
mod Lines
mod Packing
mod Looked
mod Quiet
pub mod Gating
pub mod Rounds
pub mod Verdicts
