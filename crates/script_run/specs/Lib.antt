pub mod Recorded
pub mod Performing
