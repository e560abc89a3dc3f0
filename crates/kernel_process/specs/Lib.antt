pub mod Active
pub mod Closing
pub mod Fresh
pub mod Lending
pub mod Parts
pub mod Steady
pub mod Joined
