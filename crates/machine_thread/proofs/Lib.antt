pub mod Closing
pub mod Answering
pub mod Members
pub mod Places
pub mod Courses
pub mod Cutting
