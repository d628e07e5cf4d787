pub mod Trees
pub mod Reading
pub mod Answers
pub mod Numbering
pub mod inner
