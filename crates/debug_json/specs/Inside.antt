pub mod Led
pub mod Counted
