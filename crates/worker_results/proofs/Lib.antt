pub mod Numbers
pub mod Sums
pub mod InOrder
pub mod Gated
