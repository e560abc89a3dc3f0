use Rattle.std.proofs.Common.{take}
use Rattle.lynx_meaning.specs.Values.{HaveTypes}
use Rattle.machine_values.specs.Told.{values_of}
use Rattle.machine_loops.proofs.loops.values_for.Given as goal

-- the values so far have their types
abbrev pub invariant-loop-kind : goal.invariant-loop-kind
invariant-loop-kind l = HaveTypes (take l.kind-index l.kinds) (values_of l.values.items)
