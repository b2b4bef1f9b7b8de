pub mod Answer
pub mod Asked
pub mod Handle
pub mod Kept
pub mod Owned
pub mod Talk
