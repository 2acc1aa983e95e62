pub mod Totals
pub mod Limits
pub mod Rounds
