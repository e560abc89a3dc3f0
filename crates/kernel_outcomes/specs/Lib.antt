pub mod Closing
pub mod Touched
