pub mod Progress
pub mod Room
pub mod Actions
pub mod Rows
pub mod Calls
pub mod Kernel
pub mod Start
pub mod Enclosed
