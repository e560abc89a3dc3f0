pub mod Coming
pub mod Moves
pub mod Phases
pub mod Deaths
