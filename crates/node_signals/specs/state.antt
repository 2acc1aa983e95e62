pub mod Events
pub mod Node
pub mod Laws
