pub mod Pieces
pub mod Updates
pub mod GatedBelow
