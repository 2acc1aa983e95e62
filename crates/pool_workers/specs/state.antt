pub mod Order
pub mod Dealing
pub mod Permits
pub mod Contexts
pub mod Slots
pub mod FinishedWorkers
pub mod Rooms
