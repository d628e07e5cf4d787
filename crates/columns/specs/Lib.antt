pub mod Fields
pub mod Writing
pub mod inner
