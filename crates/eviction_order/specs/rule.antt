pub mod Ranked
pub mod Criteria
pub mod Rows
