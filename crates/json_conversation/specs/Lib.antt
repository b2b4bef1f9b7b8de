-- The definitions that contracts cite.
pub mod Transcript
pub mod Conversation
pub mod Inside
