pub mod Checked
pub mod Facts
pub mod Law
