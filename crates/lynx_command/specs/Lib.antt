pub mod Limits
pub mod Text
pub mod Failures
pub mod Failing
pub mod Found
pub mod Ending
pub mod Course
