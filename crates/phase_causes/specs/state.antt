pub mod Sought
pub mod Laws
