pub mod Wired
pub mod Checked
pub mod Loaded
pub mod Starting
pub mod Linked
pub mod Plans
