pub mod Ends
pub mod Forms
pub mod Given
pub mod Lines
pub mod Names
