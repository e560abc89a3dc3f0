use Rattle.std.proofs.Common.{◌≡◌, take}
use Rattle.machine_values.specs.Told as told
use Rattle.process_run.specs.Ends.{values_of}
use Rattle.process_ends.proofs.values.pack.Given as goal

-- the values so far
abbrev pub invariant-loop-value : goal.invariant-loop-value
invariant-loop-value l = l.all.items ≡ values_of (told.values_of (take l.value-index l.values))
