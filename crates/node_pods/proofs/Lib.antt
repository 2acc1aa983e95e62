pub mod Statuses
pub mod Candidates
pub mod Steps
pub mod Sent
pub mod Kept
