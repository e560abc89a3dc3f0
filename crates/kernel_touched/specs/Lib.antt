pub mod Found
pub mod Touched
