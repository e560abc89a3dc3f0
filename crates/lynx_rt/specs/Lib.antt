pub mod Seen
pub mod Kept
pub mod Changes
pub mod May
pub mod Steps
pub mod CodedNext
pub mod Programs
