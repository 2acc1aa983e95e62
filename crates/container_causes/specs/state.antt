pub mod Listings
pub mod Watched
pub mod Laws
pub mod Exits
