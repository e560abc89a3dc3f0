-- of crates further down, for those above
pub use Rattle.theorem_effects.specs.Change
pub use Rattle.theorem_effects.specs.Closing
pub use Rattle.theorem_effects.specs.Events
pub use Rattle.theorem_effects.specs.Named
pub use Rattle.theorem_effects.specs.Sums
pub use Rattle.theorem_effects.specs.Under
