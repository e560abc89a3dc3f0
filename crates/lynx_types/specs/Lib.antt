pub mod Parts
pub mod News
pub mod Answers
