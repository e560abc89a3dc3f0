pub mod Firsts
pub mod Rows
pub mod Progress
pub mod Sizes
pub mod Members
pub mod Arms
pub mod Order
