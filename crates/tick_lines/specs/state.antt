pub mod Memory
pub mod Entries
pub mod Samples
pub mod Laws
pub mod Tape
pub mod Conditions
