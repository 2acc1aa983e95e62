pub mod Marks
pub mod Keeping
pub mod Playing
pub mod Whole
