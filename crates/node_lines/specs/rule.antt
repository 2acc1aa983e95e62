pub mod Limits
pub mod Maps
pub mod Node
pub mod Thresholds
