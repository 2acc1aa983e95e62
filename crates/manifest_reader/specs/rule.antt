pub mod Policies
pub mod OwnRestarts
pub mod Manifest
