pub mod Acts
pub mod Owners
pub mod Sound
