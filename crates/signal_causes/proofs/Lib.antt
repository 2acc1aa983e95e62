pub mod Stretches
pub mod LastMoments
