pub mod Faults
pub mod Text
