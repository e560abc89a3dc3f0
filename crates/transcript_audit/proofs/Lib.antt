pub mod Told
pub mod Once
pub mod Taken
