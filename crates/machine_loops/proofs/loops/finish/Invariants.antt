use Rattle.lynx_interp.specs.Machines.{IsMachine}
use Rattle.machine_loops.proofs.loops.finish.Given as goal

-- it is a machine at each turn
abbrev pub invariant-loop : goal.invariant-loop
invariant-loop l = IsMachine l.machine
