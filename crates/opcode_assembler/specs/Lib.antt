pub mod Words
pub mod Quotes
pub mod Numbers
pub mod Arguments
pub mod Reading
pub mod Assembly
pub mod Canonical
pub mod Cut
