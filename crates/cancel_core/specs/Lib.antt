pub mod Receives
pub mod Sends
