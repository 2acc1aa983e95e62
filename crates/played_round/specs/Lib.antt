pub mod state
