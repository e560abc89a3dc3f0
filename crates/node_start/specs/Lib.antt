pub mod Homes
pub mod New
