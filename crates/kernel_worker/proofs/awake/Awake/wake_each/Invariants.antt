use Rattle.std.proofs.Common.{◌≡◌, false, ℕ}
use Rattle.kernel_worker.specs.Awake.{is_awake}
use Rattle.kernel_worker.proofs.awake.Awake.wake_each.Given as goal

abbrev pub invariant-loop-number : goal.invariant-loop-number
invariant-loop-number l = (k : ℕ) → is_awake l.self k ≡ false → is_awake l.initial.self k ≡ false
