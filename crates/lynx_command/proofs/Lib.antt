pub mod Courses
pub mod Faults
mod FirstLines
pub mod Puts
