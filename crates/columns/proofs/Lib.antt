pub mod Bytes
pub mod Columns
pub mod Fields
pub mod Scans
pub mod Writing
