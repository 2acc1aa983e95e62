pub mod Tick
pub mod Text
pub mod Names
pub mod Laws
