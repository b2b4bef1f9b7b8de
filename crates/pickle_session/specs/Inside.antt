-- What proofs and the contracts of private functions cite. Besides, a `Session` shows its edits as the `sides` of their records
-- (`History`).
pub mod Alike
pub mod History
pub mod Trail
