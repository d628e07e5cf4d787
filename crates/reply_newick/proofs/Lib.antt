pub mod Cutting
pub mod Replies
