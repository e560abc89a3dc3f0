pub mod Arriving
pub mod Routes
