-- of crates further down, for those above
pub use Rattle.kernel_effects.specs.Actions
pub use Rattle.kernel_effects.specs.Effect
pub use Rattle.theorem_call_wait.specs.Change
pub use Rattle.theorem_call_wait.specs.Closing
pub use Rattle.theorem_call_wait.specs.Events
pub use Rattle.theorem_call_wait.specs.Sums
pub use Rattle.theorem_call_wait.specs.Under
pub use Rattle.theorem_take_answer.specs.Quiet
pub use Rattle.theorem_take_answer.specs.Swapped
