pub mod Consistent
pub mod Finishing
pub mod Started
pub mod State
pub mod Stepping
