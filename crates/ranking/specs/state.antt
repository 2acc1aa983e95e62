pub mod Keys
pub mod Index
pub mod Laws
