pub mod Calm
pub mod Steady
pub mod Calls
pub mod Takings
pub mod Forget
pub mod Known
pub mod Marked
pub mod Erased
pub mod Gone
-- of crates further down, for those above
pub use Rattle.theorem_take_silent.proofs.Alike
pub use Rattle.theorem_take_silent.proofs.Places
pub use Rattle.trace_events.proofs.Aside
pub use Rattle.trace_events.proofs.Clauses
pub use Rattle.trace_events.proofs.One
pub use Rattle.trace_events.proofs.Open
pub use Rattle.trace_events.proofs.Tracks
