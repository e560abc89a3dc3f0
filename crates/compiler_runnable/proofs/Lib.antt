pub mod Starts
pub mod Typed
pub mod Whole
