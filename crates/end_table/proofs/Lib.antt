pub mod Listed
pub mod EndEq
pub mod Change
pub mod Owned
pub mod Walks
pub mod Keeping
pub mod Holding
