pub mod Forms
pub mod Kinds
pub mod Order
pub mod Reading
pub mod Spelling
