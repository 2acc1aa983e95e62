pub mod Sums
pub mod Accounts
pub mod Runs
pub mod Drains
pub mod Rounds
pub mod Alike
pub mod Turns
