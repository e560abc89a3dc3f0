pub mod Processes
pub mod Known
pub mod Lending
