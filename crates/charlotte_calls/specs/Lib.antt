pub mod Names
pub mod Calls
pub mod Setting
pub mod Program
pub mod Ranges
pub mod EndEq
pub mod Causes
