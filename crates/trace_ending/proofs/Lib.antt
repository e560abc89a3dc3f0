pub mod Ending
pub mod Calls
-- of crates further down, for those above
pub use Rattle.trace_calm.proofs.Calls as TraceCalmCalls
pub use Rattle.trace_calm.proofs.Erased
pub use Rattle.trace_calm.proofs.Forget
pub use Rattle.trace_calm.proofs.Gone
pub use Rattle.trace_calm.proofs.Known
pub use Rattle.trace_calm.proofs.Takings
