pub mod ExitSilent
pub mod Silent
pub mod Touching
