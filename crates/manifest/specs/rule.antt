pub mod Names
pub mod Probe
pub mod Resources
pub mod Containers
pub mod ProbeKinds
pub mod RestartDelay
pub mod Gates
