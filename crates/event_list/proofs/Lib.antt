pub mod More
pub mod Unique
pub mod Exists
pub mod Adds
pub mod Merged
pub mod Ticks
pub mod Cut
pub mod Chosen
