use Rattle.lynx_interp.specs.Machines.{IsMachine}
use Rattle.machine_tests.proofs.turns.there_is_no_thread_33.Given as goal

-- it is a machine before each start
abbrev pub invariant-loop-number : goal.invariant-loop-number
invariant-loop-number l = IsMachine l.machine
