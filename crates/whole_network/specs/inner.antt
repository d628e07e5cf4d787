pub mod Families
pub mod Props
pub mod Stages
