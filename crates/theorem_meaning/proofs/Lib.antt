pub mod Sums
pub mod Plain
pub mod Ends
pub mod Goes
pub mod Rows
pub mod Frame
