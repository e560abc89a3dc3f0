pub mod Standing
pub mod Reaching
pub mod Raising
pub mod Lasting
