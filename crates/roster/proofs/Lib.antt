pub mod Found
pub mod Held
pub mod Present
pub mod Kept
