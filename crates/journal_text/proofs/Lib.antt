pub mod Rising
pub mod Heads
pub mod Merges
