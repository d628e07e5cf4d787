pub mod Readings
pub mod ShortForms
pub mod AsRead
