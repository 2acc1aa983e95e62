pub mod PackedContainer
pub mod Observations
pub mod Pods
pub mod Whole
