pub mod Observations
pub mod Pods
pub mod Limits
pub mod Reasons
pub mod Resizes
