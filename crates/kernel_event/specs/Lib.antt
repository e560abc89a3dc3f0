pub mod Arrived
pub mod Order
pub mod Places
pub mod Room
