pub mod Consistent
pub mod History
