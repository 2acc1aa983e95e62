pub mod ResultMoments
pub mod Laws
