pub mod Lists
pub mod Places
pub mod Pending
pub mod Kept
pub mod Told
pub mod Streams
mod Worked
