pub mod Container
pub mod Class
pub mod Requests
pub mod Pod
pub mod Resized
