pub mod rule
pub mod state
