pub mod Keys
pub mod Laws
pub mod Deciding
