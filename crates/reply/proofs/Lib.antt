pub mod Told
pub mod Cutting
pub mod Replying
pub mod Replies
