use Rattle.std.proofs.Common.{◌≡◌, ◌<◌, ℕ, [], slice_index_or}
use Rattle.kernel_net.specs.Rings.{Inlet}
use Rattle.kernel_net.proofs.port.first_known.Given as goal

abbrev pub invariant-loop-from : goal.invariant-loop-from
invariant-loop-from l = (l.into.items ≡ l.initial.into.items) × ((q : ℕ) (d : Inlet) → q < l.from → (slice_index_or l.initial.into.items q d).known ≡ [])
