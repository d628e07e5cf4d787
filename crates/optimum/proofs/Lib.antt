pub mod Locality
pub mod Separable
pub mod Settings
pub mod Optimum
pub mod Machine
pub mod Search
pub mod Bounds
