pub mod Packets
pub mod Reading
pub mod Spelling
pub mod Spots
