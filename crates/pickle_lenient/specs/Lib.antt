-- The definitions that contracts cite.
pub mod Number
pub mod Row
pub mod Key
pub mod Lenient
pub mod Reading
pub mod Stream
pub mod Passing
