mod Lines
mod Packets
pub mod Spelled
mod Steps
mod Taking
mod Values
