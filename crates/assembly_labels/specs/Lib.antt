pub mod Labels
pub mod Labelled
pub mod Numbering
pub mod Quick
pub mod Laws
