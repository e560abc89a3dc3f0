-- of crates further down, for those above
pub use Rattle.trace_ending.specs.Calm
