-- The definitions that contracts cite.
pub mod Asked
pub mod Says
pub mod Answer
pub mod Array
pub mod RefusedFields
pub mod ReplyFields
pub mod WhereFields
pub mod StepFields
pub mod MadeFields
pub mod ShownFields
pub mod ItemsFields
pub mod OwnFields
pub mod Lines
pub mod Answered
pub mod Agreeing
pub mod Readable
pub mod Inside
