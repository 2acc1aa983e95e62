pub mod Built
pub mod Found
pub mod Asked
