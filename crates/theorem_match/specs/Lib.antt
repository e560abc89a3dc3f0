pub mod Carrying
pub mod Sending
pub mod Matching
