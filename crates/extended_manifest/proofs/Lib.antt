pub mod Additions
pub mod Names
pub mod NeverMemory
