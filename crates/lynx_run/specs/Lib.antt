pub mod Audit
pub mod Bench
pub mod Check
pub mod Code
pub mod Commands
pub mod Complete
pub mod Drive
pub mod Run
