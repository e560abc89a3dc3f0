pub mod EndEq
pub mod Counts
pub mod Change
pub mod Shapes
pub mod Facts
