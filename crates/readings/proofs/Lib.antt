pub mod Mapped
pub mod Pieces
