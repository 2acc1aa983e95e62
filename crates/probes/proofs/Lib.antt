pub mod Runs
pub mod Taken
pub mod Counted
pub mod Kills
pub mod States
pub mod Determined
pub mod Decided
