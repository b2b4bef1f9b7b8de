-- Lemmas of the laws.
pub mod Grows
pub mod Walk
pub mod Agreeing
pub mod Protocols
pub mod Items
pub mod Loads
pub mod Law
pub mod Uses
pub mod States
pub mod LawC
pub mod Untouching
pub mod Files
pub mod Headline
