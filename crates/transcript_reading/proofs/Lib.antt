pub mod Words
pub mod Names
pub mod Packets
pub mod Steps
pub mod Lines
pub mod Order
pub mod Texts
pub mod Wholes
