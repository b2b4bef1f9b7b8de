-- The definitions that contracts cite.
pub mod ObjectText
pub mod Show
pub mod StackText
pub mod MemoText
pub mod Report
pub mod Inside
