pub mod Generation
pub mod Modules
pub mod Listing
pub mod Checked
pub mod Told
