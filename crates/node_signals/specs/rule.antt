pub mod Keys
pub mod Thresholds
pub mod Conditions
pub mod Events
