pub mod Ends
pub mod Loading
pub mod Roles
pub mod Started
pub mod Told
pub mod Whole
-- of crates further down, for those above
pub use Rattle.process_run.specs.Runs
pub use Rattle.process_run.specs.States
