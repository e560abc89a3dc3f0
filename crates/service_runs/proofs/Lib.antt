pub mod Moves
pub mod MovesOfSteps
pub mod ReportsOfSteps
pub mod History
pub mod Lawful
