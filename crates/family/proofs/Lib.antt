pub mod Reports
pub mod Reported
