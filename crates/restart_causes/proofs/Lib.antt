pub mod CountLemmas
pub mod DelayLemmas
pub mod DecisionLemmas
