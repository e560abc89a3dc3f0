pub mod Header
pub mod Lines
