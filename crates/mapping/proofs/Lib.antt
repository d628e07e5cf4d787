pub mod Meeting
pub mod Products
pub mod Pairing
pub mod Evaluating
