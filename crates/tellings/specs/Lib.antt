pub mod Steps
pub mod Chosen
pub mod Shown
pub mod inner
