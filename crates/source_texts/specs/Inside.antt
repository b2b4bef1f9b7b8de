-- What only proofs and the contracts of private functions cite. No contract of a public item needs it.
pub mod Pairs
