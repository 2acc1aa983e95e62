pub mod Answers
pub mod Fault
pub mod Files
pub mod Jobs
