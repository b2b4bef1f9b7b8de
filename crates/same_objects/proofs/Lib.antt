pub mod SameKinds
pub mod Heaps
pub mod Endings
pub mod Wholes
