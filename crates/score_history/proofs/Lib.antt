pub mod Bytes
pub mod Promises
pub mod Telling
