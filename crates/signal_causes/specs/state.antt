pub mod Watched
pub mod Laws
