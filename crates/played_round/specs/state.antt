pub mod Table
pub mod Round
pub mod Playing
