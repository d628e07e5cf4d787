pub mod Sums
pub mod Starts
