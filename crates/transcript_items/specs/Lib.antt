pub mod Bearing
pub mod Given
pub mod Kept
pub mod Next
pub mod Texts
