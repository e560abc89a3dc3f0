pub mod Machines
pub mod Rounds
pub mod Settling
pub mod Counting
pub mod Needs
