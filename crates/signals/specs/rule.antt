pub mod BySignal
pub mod Signals
