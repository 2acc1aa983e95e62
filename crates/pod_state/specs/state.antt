pub mod Pods
pub mod Gates
pub mod Containers
pub mod Lifecycles
pub mod Listings
pub mod States
pub mod Laws
