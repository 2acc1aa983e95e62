pub mod Fault
pub mod Fields
pub mod ProbeFields
pub mod ResourceFields
