pub mod Usage
pub mod Listings
pub mod Piece
pub mod Status
pub mod Made
pub mod Kept
pub mod Resources
