-- What proofs and the contracts of private functions cite. Besides, a `Document` shows its items as the units of `contents_of`
-- (`Grouping`).
pub mod ByOffset
pub mod Grouping
pub mod Joined
pub mod Kept
pub mod Bookmark
pub mod Swap
pub mod Walk
