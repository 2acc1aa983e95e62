pub mod Fault
pub mod Memory
pub mod Grammar
