pub mod Probe
pub mod Resources
pub mod Containers
