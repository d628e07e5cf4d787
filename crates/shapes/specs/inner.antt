pub mod ShortForms
pub mod Counts
pub mod Arcs
