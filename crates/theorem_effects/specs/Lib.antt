pub mod Change
pub mod Events
pub mod Sums
pub mod Under
pub mod Aside
pub mod Named
-- of crates further down, for those above
pub use Rattle.kernel_effects.specs.Actions
pub use Rattle.kernel_effects.specs.Calls
pub use Rattle.kernel_effects.specs.Effect
pub use Rattle.kernel_effects.specs.Rows
pub use Rattle.kernel_outcomes.specs.Closing
pub use Rattle.kernel_world.specs.World
pub use Rattle.theorem_meaning.specs.Fields
pub use Rattle.theorem_meaning.specs.Invariant
pub use Rattle.theorem_meaning.specs.Packets
pub use Rattle.theorem_meaning.specs.StandsFor
