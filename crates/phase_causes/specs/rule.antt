pub mod Cases
pub mod Unfinished
