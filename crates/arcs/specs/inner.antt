pub mod Arcs
pub mod Walks
pub mod Props
