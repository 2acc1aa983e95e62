pub mod Pods
pub mod Round
