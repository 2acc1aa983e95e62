pub mod Tells
pub mod KeyOrder
pub mod Changes
pub mod Held
pub mod LawLemmas
pub mod Victims
