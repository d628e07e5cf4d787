pub mod WrittenOut
pub mod inner
