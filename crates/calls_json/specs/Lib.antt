-- The definitions that contracts cite.
pub mod SaidNames
pub mod TextFields
pub mod NameFields
pub mod ValueFields
pub mod EventFields
pub mod LastFields
pub mod Told
pub mod MixFields
pub mod Readable
