pub mod Capacities
pub mod FaultLemmas
pub mod LawLemmas
pub mod ThresholdLemmas
pub mod Written
