pub mod GeneTrees
pub mod Costs
pub mod Limits
