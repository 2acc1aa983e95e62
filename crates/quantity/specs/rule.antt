pub mod Digits
pub mod Duration
pub mod Limit
pub mod Number
pub mod Percent
pub mod Quantity
pub mod Steps
pub mod Suffix
