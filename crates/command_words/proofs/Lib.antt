mod Arguments
pub mod Turns
