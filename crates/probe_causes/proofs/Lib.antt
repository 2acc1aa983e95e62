pub mod Parts
pub mod Told
pub mod Runs
pub mod Counted
pub mod Kept
pub mod Kills
pub mod Readiness
pub mod Startup
