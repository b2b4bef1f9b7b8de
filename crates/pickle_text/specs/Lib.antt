-- The definitions that contracts cite.
pub mod Words
pub mod Closing
pub mod Reached
pub mod Column
pub mod ReportLine
pub mod Output
pub mod Source
pub mod Inside
