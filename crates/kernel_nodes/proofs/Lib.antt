pub mod Events
pub mod Lists
pub mod Sent
pub mod Started
pub mod Targets
pub mod Worlds
