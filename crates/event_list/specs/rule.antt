pub mod Events
pub mod Totals
pub mod Text
