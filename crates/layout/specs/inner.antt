pub mod Parts
pub mod Choices
pub mod Tree
pub mod Genes
pub mod Results
pub mod Props
