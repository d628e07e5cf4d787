pub mod Optimum
pub mod Machine
pub mod inner
