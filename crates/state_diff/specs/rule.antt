pub mod States
pub mod Instances
pub mod Acceptable
