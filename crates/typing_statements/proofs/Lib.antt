pub mod Sizes
pub mod Lists
pub mod Actions
pub mod Cases
