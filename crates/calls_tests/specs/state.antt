pub mod Pods
pub mod Why
