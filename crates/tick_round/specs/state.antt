pub mod Node
pub mod Workers
