pub mod Tests
pub mod Range
pub mod Least
pub mod Tables
pub mod Refusals
