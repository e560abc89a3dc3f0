pub mod Lists
pub mod Members
pub mod Counting
pub mod Numbering
pub mod Calling
pub mod Noting
pub mod Opening
