pub mod Places
pub mod Tables
pub mod Chains
pub mod Jumps
