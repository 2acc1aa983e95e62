pub mod Blanks
pub mod Cutting
pub mod Found
pub mod ZippedParts
pub mod ReadChunks
pub mod Said
pub mod Windows
pub mod OnTape
