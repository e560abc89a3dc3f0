pub mod Law
-- of crates further down, for those above
pub use Rattle.trace_start.specs.Record
