pub mod Policy
pub mod Own
pub mod Delays
pub mod Exits
