pub mod Trees
pub mod Grammar
pub mod Faults
pub mod Printing
pub mod Answers
