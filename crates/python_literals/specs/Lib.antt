-- The definitions that contracts cite.
pub mod Signs
pub mod Text
pub mod Numbers
pub mod Inside
pub mod Floats
pub mod Names
pub mod Grammar
pub mod Laws
