pub mod Separable
