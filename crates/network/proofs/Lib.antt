pub mod Readings
pub mod Acceptance
pub mod Bounds
pub mod AsRead
