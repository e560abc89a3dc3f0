pub mod Values
pub mod Actions
pub mod Rows
pub mod Steps
pub mod Start
