pub mod Moments
pub mod Causes
