pub mod Facts
pub mod RawPhase
pub mod ByContainer
