pub mod Told
pub mod Kept
pub mod Closes
pub mod Outcomes
pub mod Programs
