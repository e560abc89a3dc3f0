pub mod Packed
pub mod Lines
