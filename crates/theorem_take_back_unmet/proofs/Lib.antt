pub mod Brought
pub mod Dropped
pub mod Unmet
