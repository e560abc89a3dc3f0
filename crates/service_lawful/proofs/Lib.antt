pub mod Fresh
pub mod History
pub mod Turned
