pub mod Many
pub mod Genes
pub mod Mapped
pub mod Pieces
