pub mod Lines
pub mod Headers
pub mod Events
pub mod inner
