use Rattle.std.proofs.Common.{◌≡◌, take}
use Rattle.kernel_entries.proofs.entry.store_steps.Given as goal

abbrev pub invariant-loop-step : goal.invariant-loop-step
invariant-loop-step l = l.stored.items ≡ take l.step-index l.steps
