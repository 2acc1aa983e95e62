pub mod Written
pub mod Pod
pub mod Placing
pub mod Observed
pub mod TraceSoFar
pub mod Tick
pub mod Trace
