pub mod Shown
pub mod Container
pub mod Step
pub mod Laws
