pub mod Buffers
pub mod Families
pub mod Reports
pub mod inner
