pub mod Outcomes
pub mod Ticks
pub mod Container
