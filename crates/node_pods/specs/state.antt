pub mod Pods
pub mod Steps
pub mod Ranked
pub mod Laws
