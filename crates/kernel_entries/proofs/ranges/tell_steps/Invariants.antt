use Rattle.std.proofs.Common.{All, take}
use Rattle.charlotte_calls.specs.Ranges.{IsStepInRange}
use Rattle.kernel_entries.proofs.ranges.tell_steps.Given as goal

abbrev pub invariant-loop-step : goal.invariant-loop-step
invariant-loop-step l = All IsStepInRange (take l.step-index l.steps)
