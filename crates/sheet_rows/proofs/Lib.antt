pub mod Opened
pub mod Frozen
pub mod Rows
