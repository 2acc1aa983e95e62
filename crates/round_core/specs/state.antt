pub mod Pool
pub mod Places
