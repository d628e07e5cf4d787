pub mod Turning
pub mod Settings
pub mod Starting
