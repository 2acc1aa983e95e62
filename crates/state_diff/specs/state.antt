pub mod Instances
pub mod Instance
pub mod Differ
pub mod Laws
