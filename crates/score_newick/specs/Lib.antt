pub mod Sheets
pub mod Refusals
pub mod Outcome
pub mod inner
