pub mod Usage
pub mod Piece
pub mod Status
pub mod Resources
