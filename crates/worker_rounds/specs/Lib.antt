pub mod Cycles
pub mod Nodes
