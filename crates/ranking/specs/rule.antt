pub mod Amounts
pub mod Order
