pub mod Placed
pub mod Spreading
pub mod Started
