pub mod Active
pub mod Since
pub mod LawLemmas
