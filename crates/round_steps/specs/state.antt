pub mod Spelling
pub mod Steps
pub mod Fault
pub mod Laws
