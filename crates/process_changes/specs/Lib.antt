pub mod Ledgers
pub mod Changes
pub mod Asking
pub mod Telling
pub mod AtEnd
-- of crates further down, for those above
pub use Rattle.process_run.specs.Ends
pub use Rattle.process_run.specs.Reports
pub use Rattle.process_run.specs.Runs
pub use Rattle.process_run.specs.States
pub use Rattle.process_sound.specs.Processes
pub use Rattle.process_sound.specs.Told
