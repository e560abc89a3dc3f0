pub mod Leading
pub mod Had
-- of crates further down, for those above
pub use Rattle.theorem_effects.specs.Aside
pub use Rattle.theorem_effects.specs.Change
pub use Rattle.theorem_effects.specs.Events
pub use Rattle.theorem_effects.specs.Sums
pub use Rattle.theorem_effects.specs.Under
