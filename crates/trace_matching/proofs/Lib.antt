pub mod Matching
pub mod Sends
pub mod Wants
