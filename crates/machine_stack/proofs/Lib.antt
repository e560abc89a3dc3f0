pub mod Stacked
pub mod Gathered
pub mod Kept
