-- The definitions that contracts cite.
pub mod Acting
pub mod Inside
pub mod Laws
