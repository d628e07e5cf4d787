pub mod Settings
pub mod Turning
