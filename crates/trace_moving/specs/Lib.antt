pub mod Moving
-- of crates further down, for those above
pub use Rattle.trace_hearing.specs.Hearing
