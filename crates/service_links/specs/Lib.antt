pub mod Kept
pub mod Links
