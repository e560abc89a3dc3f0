pub mod Again
pub mod Found
pub mod Hostless
pub mod Names
pub mod Posts
pub mod Shapes
pub mod Steps
