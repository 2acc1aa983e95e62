pub mod KeptAs
pub mod OwnTicks
mod Reasons
pub mod Gates
