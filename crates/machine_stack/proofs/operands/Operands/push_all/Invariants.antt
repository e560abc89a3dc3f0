use Rattle.std.proofs.Common.{◌≡◌, ◌++◌, reverse, take}
use Rattle.machine_values.specs.Told.{values_of}
use Rattle.machine_stack.proofs.operands.Operands.push_all.Given as goal

-- the values so far are on top
abbrev pub invariant-loop-value : goal.invariant-loop-value
invariant-loop-value l = l.self ≡ reverse (values_of (take l.value-index l.values)) ++ l.fn.self
