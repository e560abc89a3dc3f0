pub mod Chains
pub mod Listings
pub mod Pieces
pub mod Walks
pub mod Readings
