pub mod Climbs
pub mod Pairs
pub mod Evaluation
pub mod Props
pub mod Seated
