pub mod Hearing
-- of crates further down, for those above
pub use Rattle.trace_calm.specs.Calm
pub use Rattle.trace_calm.specs.Had
pub use Rattle.trace_calm.specs.Quiet
