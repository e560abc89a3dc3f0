pub mod Late
pub mod Run
