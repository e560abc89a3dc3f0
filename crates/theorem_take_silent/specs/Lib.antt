pub mod Quiet
pub mod Silent
pub mod Learning
-- of crates further down, for those above
pub use Rattle.theorem_effects.specs.Aside
pub use Rattle.theorem_effects.specs.Calls
pub use Rattle.theorem_effects.specs.Change
pub use Rattle.theorem_effects.specs.Closing
pub use Rattle.theorem_effects.specs.Effect
pub use Rattle.theorem_effects.specs.Events
pub use Rattle.theorem_effects.specs.Named
pub use Rattle.theorem_effects.specs.Rows
pub use Rattle.theorem_effects.specs.Sums
pub use Rattle.theorem_effects.specs.Under
