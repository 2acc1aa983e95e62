pub mod Samples
pub mod Thresholds
