pub mod Due
pub mod Returned
