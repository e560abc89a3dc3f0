use Rattle.std.proofs.Common.{◌≡◌, ◌<◌, ℕ, Some}
use Rattle.std.specs.Prelude.{slice_get}
use Rattle.kernel_worker.specs.Ends.{IsAtLimit}
use Rattle.kernel_worker.proofs.standing.first_spent.Given as goal

abbrev pub invariant-loop-kernel : goal.invariant-loop-kernel
invariant-loop-kernel g l = (j : ℕ) (n : _) → j < l.kernel → slice_get l.nodes j ≡ Some n → IsAtLimit n → ⊥
