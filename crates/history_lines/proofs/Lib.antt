pub mod Walks
pub mod Genes
pub mod Starts
