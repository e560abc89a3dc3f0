pub mod Tame
pub mod Takings
pub mod Calls
pub mod Held
pub mod Run
-- of crates further down, for those above
pub use Rattle.trace_start.proofs.Record
pub use Rattle.trace_start.proofs.Run as TheoremRun
pub use Rattle.trace_start.proofs.TheoremStart as Start
