pub mod Doings
pub mod Listed
