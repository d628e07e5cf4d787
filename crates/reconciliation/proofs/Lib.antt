pub mod Genes
pub mod Agreement
