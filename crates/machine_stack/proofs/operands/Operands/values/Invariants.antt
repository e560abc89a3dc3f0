use Rattle.std.proofs.Common.{◌≡◌, drop}
use Rattle.machine_stack.proofs.operands.Operands.values.Given as goal

abbrev pub invariant-passed : goal.invariant-passed
invariant-passed l = l.rest ≡ drop l.counter l.self
