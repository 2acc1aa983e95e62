pub mod Counted
pub mod MemSink
pub mod MemSource
pub mod Reading
pub mod Stop
