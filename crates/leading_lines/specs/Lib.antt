pub mod Ahead
pub mod Past
