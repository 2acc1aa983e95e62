pub mod Found
pub mod OnlyUsage
pub mod Parts
pub mod Ordered
pub mod Texts
pub mod Quantities
pub mod Truths
pub mod Strangers
pub mod Alike
pub mod Nulls
mod Members
pub mod Reasons
pub mod Statuses
mod Resized
