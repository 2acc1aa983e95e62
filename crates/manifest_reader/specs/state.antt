pub mod Found
pub mod Table
pub mod Laws
pub mod Checks
