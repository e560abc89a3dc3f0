pub mod Meeting
pub mod Received
pub mod Taken
pub mod Parcels
