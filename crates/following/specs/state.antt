pub mod Followed
pub mod Steps
