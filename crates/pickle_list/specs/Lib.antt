-- The definitions that contracts cite.
pub mod ArgTexts
pub mod ListingColumn
pub mod Line
pub mod Listing
pub mod Written
pub mod Inside
