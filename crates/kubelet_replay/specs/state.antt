pub mod Ticks
pub mod Fault
pub mod Run
pub mod Laws
