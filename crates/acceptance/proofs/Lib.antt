pub mod Mapped
pub mod Whole
pub mod Genes
