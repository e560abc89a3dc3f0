pub mod Closing
pub mod Sound
pub mod Events
pub mod Called
pub mod Touched
