pub mod Body
pub mod At
pub mod Faults
pub mod Expected
-- of crates further down, for those above
pub use Rattle.transcript_law.specs.Law
