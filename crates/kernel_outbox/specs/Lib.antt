pub mod Letters
pub mod Unsent
