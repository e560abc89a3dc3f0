pub mod Effect
pub mod Actions
pub mod Calls
pub mod Rows
