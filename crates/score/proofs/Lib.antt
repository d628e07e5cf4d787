pub mod Curators
pub mod Refusals
pub mod Outcomes
pub mod Promises
