use Rattle.std.proofs.Common.{◌≡◌, ◌<◌, ℕ, Some}
use Rattle.std.specs.Prelude.{slice_get}
use Rattle.kernel_turns.specs.Goes.{IsAtRest}
use Rattle.kernel_worker.proofs.standing.are_at_rest.Given as goal

abbrev pub invariant-loop-place : goal.invariant-loop-place
invariant-loop-place g l = (j : ℕ) (n : _) → j < l.place → slice_get l.nodes j ≡ Some n → IsAtRest n
