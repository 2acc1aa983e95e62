pub mod Histories
pub mod Picked
pub mod TheOne
