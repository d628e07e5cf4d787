pub mod Readings
pub mod Refusals
pub mod Outcomes
pub mod Promises
