pub mod Replay
pub mod Course
pub mod Header
