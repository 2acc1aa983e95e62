pub mod ExitCounts
pub mod Decisions
