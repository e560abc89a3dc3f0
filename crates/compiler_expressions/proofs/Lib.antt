pub mod Values
pub mod Clean
pub mod Operators
pub mod Variables
pub mod Operands
pub mod Expressions
