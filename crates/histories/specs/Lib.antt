pub mod Histories
pub mod Words
pub mod Families
pub mod inner
