pub mod Numbered
pub mod Placed
