pub mod Judged
pub mod WatchLemmas
pub mod ServedLemmas
pub mod ConditionLemmas
pub mod EventLemmas
pub mod LawLemmas
pub mod Decide
pub mod Exists
