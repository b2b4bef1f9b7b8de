-- The definitions that contracts cite.
pub mod VerdictFields
pub mod GateLine
pub mod Readable
pub mod MembersFields
