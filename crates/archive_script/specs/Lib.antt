-- The definitions that contracts cite.
pub mod GateText
pub mod MembersText
pub mod FaultText
pub mod TarText
pub mod SingleText
