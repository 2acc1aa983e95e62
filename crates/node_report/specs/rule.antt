pub mod Lines
pub mod Report
