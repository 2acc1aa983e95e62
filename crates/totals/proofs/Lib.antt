pub mod Low
pub mod Numbers
pub mod Made
