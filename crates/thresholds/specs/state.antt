pub mod Laws
pub mod Watch
