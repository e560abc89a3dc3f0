pub mod Law
pub mod Record
