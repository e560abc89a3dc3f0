pub mod Wired
pub mod Start
pub mod Takings
pub mod Run
pub mod Record
