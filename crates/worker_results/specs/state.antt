pub mod Done
pub mod WorkerResults
pub mod Gated
