pub mod BySignal
pub mod Laws
