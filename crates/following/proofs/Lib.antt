pub mod Forwards
pub mod Steps
pub mod Followed
pub mod Accepted
