-- The definitions that contracts cite.
pub mod Allow
pub mod Source
pub mod Granted
pub mod Grammar
pub mod Words
pub mod Together
pub mod Rests
pub mod Cut
pub mod Lines
pub mod Named
pub mod Arguments
pub mod Given
