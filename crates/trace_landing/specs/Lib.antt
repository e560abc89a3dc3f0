pub mod Landing
-- of crates further down, for those above
pub use Rattle.theorem_ends_arrived.specs.Arrived
pub use Rattle.trace_link.specs.Calm
pub use Rattle.trace_moving.specs.Moving
