pub mod Journal
pub mod Heads
