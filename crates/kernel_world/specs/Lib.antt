pub mod World
pub mod Run
