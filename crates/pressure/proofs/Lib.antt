pub mod Latest
pub mod Values
pub mod Since
pub mod LawLemmas
