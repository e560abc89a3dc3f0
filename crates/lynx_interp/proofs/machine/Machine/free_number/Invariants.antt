use Rattle.lynx_interp.specs.Machines.{StandBelow}
use Rattle.lynx_interp.proofs.machine.Machine.free_number.Given as goal

-- each number so far has a thread
abbrev pub invariant-loop-number : goal.invariant-loop-number
invariant-loop-number l = StandBelow l.number l.self.turns
