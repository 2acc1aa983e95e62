pub mod Additions
pub mod Room
pub mod Laid
pub mod FilledDeques
pub mod Dealing
pub mod FinishedWorkers
