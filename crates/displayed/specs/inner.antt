pub mod Charges
pub mod Arcs
pub mod Tabled
