pub mod Kinds
pub mod Setting
pub mod Giving
