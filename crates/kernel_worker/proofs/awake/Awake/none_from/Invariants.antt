use Rattle.std.proofs.Common.{◌≡◌, ◌<◌, ◌≤◌, false, ℕ}
use Rattle.kernel_worker.specs.Awake.{is_awake}
use Rattle.kernel_worker.proofs.awake.Awake.none_from.Given as goal

abbrev pub invariant-loop-number : goal.invariant-loop-number
invariant-loop-number l = (k : ℕ) → l.first ≤ k → k < l.number → is_awake l.self k ≡ false
