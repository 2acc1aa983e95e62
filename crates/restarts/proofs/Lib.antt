pub mod Places
pub mod Numbers
pub mod CountLemmas
pub mod DelayLemmas
pub mod LawLemmas
