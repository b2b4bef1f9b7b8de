-- The definitions that contracts cite.
pub mod Words
pub mod EntryFields
pub mod Readable
