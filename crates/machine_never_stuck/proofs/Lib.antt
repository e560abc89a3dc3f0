pub mod Pairs
pub mod Numbers
pub mod Steps
pub mod Operands
pub mod Slots
pub mod Whole
