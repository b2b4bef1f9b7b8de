-- Lemmas.
pub mod GateLaws
pub mod GateTexts
pub mod MembersTexts
pub mod TarTexts
