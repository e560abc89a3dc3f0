pub mod Cuts
pub mod Texts
pub mod Tells
pub mod Clean
