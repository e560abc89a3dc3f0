pub mod Runs
pub mod Follow
