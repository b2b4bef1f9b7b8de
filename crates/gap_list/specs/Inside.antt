-- What proofs and the contracts of private functions cite. Besides, a `GapList` shows what is `seen` of its buffer (`List`).
pub mod List
pub mod Ownership
pub mod Places
pub mod GapBuffer
