-- The definitions that contracts cite.
pub mod Stop
pub mod Output
pub mod Script
pub mod Query
pub mod Transcript
pub mod Conversation
pub mod FormText
pub mod GateText
pub mod ReachText
pub mod Grammar
pub mod GivenHoles
pub mod FaultText
pub mod ReplyText
pub mod PlaceText
pub mod Inside
