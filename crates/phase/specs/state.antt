pub mod Facts
pub mod PolicyPhase
pub mod Restarts
pub mod Conditions
pub mod Views
pub mod Laws
