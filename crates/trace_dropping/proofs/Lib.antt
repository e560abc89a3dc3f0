pub mod Dropped
-- of crates further down, for those above
pub use Rattle.theorem_take_back_unmet.proofs.Unmet
pub use Rattle.trace_ending.proofs.Calls as TraceEndingCalls
pub use Rattle.trace_ending.proofs.Erased
pub use Rattle.trace_ending.proofs.Forget
pub use Rattle.trace_ending.proofs.Gone
pub use Rattle.trace_ending.proofs.Known
pub use Rattle.trace_ending.proofs.Takings
pub use Rattle.trace_ending.proofs.TraceCalmCalls as Calls
pub use Rattle.trace_landing.proofs.Among
pub use Rattle.trace_landing.proofs.Comes
pub use Rattle.trace_landing.proofs.First
pub use Rattle.trace_landing.proofs.Learns
pub use Rattle.trace_landing.proofs.Marks
pub use Rattle.trace_landing.proofs.Owned
pub use Rattle.trace_landing.proofs.Passed
pub use Rattle.trace_landing.proofs.Taken
pub use Rattle.trace_landing.proofs.Version
