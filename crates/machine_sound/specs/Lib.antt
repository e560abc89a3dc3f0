pub mod Sound
pub mod Taken
pub mod Weights
