-- The definitions that contracts cite.
pub mod Numeral
pub mod Escape
pub mod Name
pub mod Spelled
pub mod Held
pub mod Run
pub mod Form
pub mod Sentence
pub mod Inside
