pub mod Ticks
pub mod Probed
pub mod Exits
pub mod Events
pub mod Shown
