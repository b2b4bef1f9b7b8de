-- The definitions that contracts cite.
pub mod ItemFields
pub mod EndFields
pub mod ShownFields
pub mod ReachFields
pub mod FormFields
pub mod Listing
pub mod Written
pub mod Readable
pub mod ReachReadable
pub mod FormReadable
pub mod Agreeing
