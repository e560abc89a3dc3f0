pub mod Merging
pub mod Rising
pub mod Bare
