pub mod Walks
pub mod Children
