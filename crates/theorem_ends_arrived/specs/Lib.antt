pub mod Arrived
-- of crates further down, for those above
pub use Rattle.theorem_take_gone.specs.Swapped
