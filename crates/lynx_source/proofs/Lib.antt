mod Lines
pub mod Readings
