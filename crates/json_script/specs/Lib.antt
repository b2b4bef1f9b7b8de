-- The definitions that contracts cite.
pub mod Once
pub mod ReachLine
pub mod FormLine
pub mod Answer
pub mod CallsLines
