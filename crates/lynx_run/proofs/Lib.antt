mod Complete
mod Crossing
mod Driven
mod Once
mod Ran
pub mod Lawful
mod Running
