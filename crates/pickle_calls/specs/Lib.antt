-- The definitions that contracts cite.
pub mod Event
pub mod Naming
pub mod Brief
pub mod Begins
pub mod CallsLine
pub mod Telling
pub mod Manner
pub mod Calls
pub mod Ran
pub mod CallsWritten
pub mod Inside
