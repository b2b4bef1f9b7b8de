-- What proofs and the contracts of private functions cite.
pub mod Turns
pub mod Limbs
