pub mod Open
pub mod Heard
