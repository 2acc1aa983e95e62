pub mod Update
pub mod Played
