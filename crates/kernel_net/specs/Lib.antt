pub mod Letters
pub mod Rings
pub mod Ports
pub mod Grid
