pub mod Values
pub mod Courses
pub mod Needs
pub mod Expressions
pub mod Source
pub mod Code
pub mod Agree
