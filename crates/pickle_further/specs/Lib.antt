-- The definitions that contracts cite.
pub mod Leads
pub mod Deep
pub mod Splits
pub mod Going
pub mod Far
pub mod Parts
pub mod CallsText
pub mod Inside
pub mod Quiet
pub mod Laws
