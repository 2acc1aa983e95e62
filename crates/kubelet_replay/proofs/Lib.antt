pub mod NodeLemmas
pub mod AllTicks
pub mod Gated
pub mod Reports
pub mod Replayable
pub mod Unique
pub mod Exists
