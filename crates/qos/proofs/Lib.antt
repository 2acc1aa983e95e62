pub mod ClassLemmas
pub mod RequestLemmas
