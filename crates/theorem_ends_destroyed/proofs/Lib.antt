pub mod Facts
pub mod Placed
pub mod Clauses
