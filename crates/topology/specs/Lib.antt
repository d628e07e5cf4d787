pub mod Climbing
pub mod Networks
pub mod Switchings
pub mod Components
pub mod Lines
