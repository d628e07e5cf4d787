pub mod Reports
pub mod inner
