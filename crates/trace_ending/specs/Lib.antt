pub mod Telling
-- of crates further down, for those above
pub use Rattle.trace_calm.specs.Calm
