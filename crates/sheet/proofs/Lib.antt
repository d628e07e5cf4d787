pub mod Limits
pub mod Reading
pub mod Refusals
