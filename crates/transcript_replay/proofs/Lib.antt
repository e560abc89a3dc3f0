pub mod Rest
pub mod Header
pub mod Places
