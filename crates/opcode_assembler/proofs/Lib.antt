pub mod Cuts
pub mod Lines
pub mod Scans
pub mod Wides
pub mod Bytes
pub mod Scanned
