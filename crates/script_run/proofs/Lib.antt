pub mod Events
pub mod OneLine
pub mod Performances
pub mod Ranges
pub mod Runs
pub mod Settling
pub mod Stamps
