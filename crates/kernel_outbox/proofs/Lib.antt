mod Going
mod Waiting
pub mod Putting
pub mod Emptying
