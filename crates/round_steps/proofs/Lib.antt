pub mod Cutting
pub mod Numbers
pub mod Words
pub mod InOrder
pub mod ReadOn
pub mod LawLemmas
