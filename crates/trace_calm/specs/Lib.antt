pub mod Calm
pub mod Steady
-- of crates further down, for those above
pub use Rattle.theorem_take_silent.specs.Quiet
pub use Rattle.trace_events.specs.Had
pub use Rattle.trace_events.specs.Leading
