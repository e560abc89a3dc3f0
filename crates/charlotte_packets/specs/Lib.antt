pub mod Moving
pub mod Packets
pub mod Ranges
pub mod Sent
