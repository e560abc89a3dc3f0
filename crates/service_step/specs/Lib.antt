pub mod Ends
pub mod State
pub mod Causes
pub mod Steps
pub mod Run
pub mod Lawful
