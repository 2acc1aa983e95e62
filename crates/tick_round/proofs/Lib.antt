pub mod After
pub mod Rounds
pub mod Gated
pub mod Rest
pub mod Single
pub mod Out
