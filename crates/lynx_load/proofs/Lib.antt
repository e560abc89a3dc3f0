pub mod Modules
pub mod Planned
pub mod Starting
pub mod Wiring
