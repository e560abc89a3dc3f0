pub mod Given
pub mod Steps
pub mod Told
pub mod Values
