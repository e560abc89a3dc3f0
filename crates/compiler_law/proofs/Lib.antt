pub mod Ends
pub mod Agreement
pub mod Names
pub mod Parts
pub mod Whole
