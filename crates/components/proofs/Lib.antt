pub mod Readings
mod Ways
mod Filling
