pub mod Laws
pub mod Pausing
