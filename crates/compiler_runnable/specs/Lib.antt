pub mod Runnable
pub mod Law
