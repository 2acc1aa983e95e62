pub mod ConditionLemmas
pub mod PhaseLemmas
pub mod DecideLemmas
pub mod PolicyLemmas
