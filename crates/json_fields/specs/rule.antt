pub mod Fields
pub mod Numbers
pub mod Reading
pub mod Strangers
pub mod Quantities
pub mod SignalMaps
