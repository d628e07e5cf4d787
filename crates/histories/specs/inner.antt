pub mod Grades
pub mod Rows
pub mod Accepted
pub mod Promise
