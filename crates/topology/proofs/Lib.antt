pub mod Climbing
pub mod Above
pub mod Components
pub mod Lca
pub mod CutArcs
pub mod Lines
