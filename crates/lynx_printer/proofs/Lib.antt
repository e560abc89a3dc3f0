pub mod Apart
pub mod Lists
pub mod Spelled
pub mod Statements
pub mod Texts
