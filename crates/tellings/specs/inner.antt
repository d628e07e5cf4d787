pub mod Lineages
pub mod Walks
