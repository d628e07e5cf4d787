pub mod Refusals
pub mod Genes
pub mod inner
