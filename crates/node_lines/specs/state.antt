pub mod Memory
pub mod Laws
pub mod Limits
pub mod Thresholds
