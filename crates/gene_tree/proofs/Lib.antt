pub mod Refusals
pub mod Genes
pub mod Reading
pub mod Filling
