pub mod Carried
pub mod Lengths
pub mod Valid
