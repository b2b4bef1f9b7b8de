-- The definitions that contracts cite.
pub mod Names
pub mod Numbers
pub mod Item
pub mod Reach
pub mod Inside
