pub mod Contents
pub mod Refusals
pub mod Outcome
pub mod inner
