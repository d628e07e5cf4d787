pub mod Scans
pub mod Examples
