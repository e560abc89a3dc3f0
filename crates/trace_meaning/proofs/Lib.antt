pub mod Chains
pub mod Quiet
pub mod Frame
mod Worked
