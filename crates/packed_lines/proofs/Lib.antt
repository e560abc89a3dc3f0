pub mod Packed
pub mod Texts
