pub mod Outcomes
pub mod Ticks
pub mod Startup
pub mod Liveness
pub mod Readiness
pub mod Container
pub mod ProbeSet
pub mod Laws
