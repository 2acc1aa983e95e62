pub mod Borrowed
pub mod Reading
pub mod Strangers
pub mod Tape
