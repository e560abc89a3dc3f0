pub mod Hearing
pub mod Marks
-- of crates further down, for those above
pub use Rattle.trace_calm.proofs.Alike
pub use Rattle.trace_calm.proofs.Calls
pub use Rattle.trace_calm.proofs.Clauses
pub use Rattle.trace_calm.proofs.One
pub use Rattle.trace_calm.proofs.Places
pub use Rattle.trace_calm.proofs.Steady
pub use Rattle.trace_calm.proofs.Takings
pub use Rattle.trace_calm.proofs.Tracks
