pub mod WholeArgs
