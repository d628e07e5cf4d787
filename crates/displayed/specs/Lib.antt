pub mod Displayed
pub mod Mapping
pub mod Displays
pub mod Model
pub mod inner
