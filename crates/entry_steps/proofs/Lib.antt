pub mod Calls
pub mod Takings
pub mod Phases
pub mod Entries
