pub mod SameText
pub mod SameFields
