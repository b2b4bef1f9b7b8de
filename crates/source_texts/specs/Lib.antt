-- The definitions that contracts cite.
pub mod Name
pub mod Held
pub mod Expression
pub mod Import
pub mod Reach
pub mod Statement
pub mod Inside
