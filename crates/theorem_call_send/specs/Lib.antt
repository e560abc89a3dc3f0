pub mod Kept
pub mod Regrouped
pub mod Begun
-- of crates further down, for those above
pub use Rattle.theorem_call_wait.specs.Change
pub use Rattle.theorem_call_wait.specs.Events
pub use Rattle.theorem_call_wait.specs.Named
pub use Rattle.theorem_call_wait.specs.Under
