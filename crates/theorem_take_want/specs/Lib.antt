pub mod Anew
-- of crates further down, for those above
pub use Rattle.theorem_take_silent.specs.Change
pub use Rattle.theorem_take_silent.specs.Events
pub use Rattle.theorem_take_silent.specs.Learning
pub use Rattle.theorem_take_silent.specs.Named
pub use Rattle.theorem_take_silent.specs.Quiet
pub use Rattle.theorem_take_silent.specs.Silent
pub use Rattle.theorem_take_silent.specs.Sums
pub use Rattle.theorem_take_silent.specs.Under
