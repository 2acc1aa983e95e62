pub mod Parts
pub mod Pieces
pub mod Summary
pub mod Unique
pub mod Exists
