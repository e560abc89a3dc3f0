pub mod Given
pub mod Forms
pub mod Rules
pub mod Reading
pub mod ScriptText
pub mod Stored
pub mod Draws
pub mod Seeded
