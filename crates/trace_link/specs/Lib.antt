pub mod Closing
-- of crates further down, for those above
pub use Rattle.trace_calm.specs.Calm
