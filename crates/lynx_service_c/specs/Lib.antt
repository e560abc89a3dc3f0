pub mod Holder
pub mod Memory
pub mod Service
