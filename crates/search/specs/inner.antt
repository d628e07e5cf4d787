pub mod Prepared
pub mod Steps
pub mod Searched
pub mod Works
pub mod Props
