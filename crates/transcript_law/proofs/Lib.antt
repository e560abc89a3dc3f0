pub mod Lawful
pub mod Within
