pub mod Queue
pub mod Run
