pub mod Learned
pub mod Learns
