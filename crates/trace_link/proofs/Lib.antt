pub mod Make
pub mod Apart
pub mod Own
pub mod Notice
-- of crates further down, for those above
pub use Rattle.trace_calm.proofs.Known
pub use Rattle.trace_calm.proofs.Marked
