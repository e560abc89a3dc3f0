pub mod Still
pub mod Onward
pub mod Moving
-- of crates further down, for those above
pub use Rattle.trace_events.proofs.Clauses
pub use Rattle.trace_events.proofs.One
pub use Rattle.trace_events.proofs.Open
pub use Rattle.trace_hearing.proofs.Marks
