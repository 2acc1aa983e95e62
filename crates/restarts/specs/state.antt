pub mod Backoff
pub mod Counts
pub mod Laws
