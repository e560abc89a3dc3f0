pub mod Grid
pub mod Learned
pub mod Lists
pub mod Nets
pub mod Ports
pub mod Rings
