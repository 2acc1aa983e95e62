pub mod Laws
pub mod Added
