use Rattle.lynx_interp.specs.Machines.{IsMachine}
use Rattle.machine_loops.proofs.loops.run_loop.Given as goal

-- it is a machine at each turn
abbrev pub invariant-loop-number : goal.invariant-loop-number
invariant-loop-number l = IsMachine l.machine
