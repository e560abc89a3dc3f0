pub mod Machine
pub mod Modules
pub mod Packets
pub mod Ends
pub mod Hearing
pub mod Processes
pub mod Acting
pub mod Told
pub mod May
-- of crates further down, for those above
pub use Rattle.process_run.specs.Runs
pub use Rattle.process_run.specs.States
