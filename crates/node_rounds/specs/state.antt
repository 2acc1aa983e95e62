pub mod Evict
pub mod Node
pub mod Round
pub mod Stretch
pub mod Summary
