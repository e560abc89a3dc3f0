use Rattle.lynx_interp.specs.Machines.{IsMachine}
use Rattle.machine_tests.proofs.playing.played.Given as goal

-- it is a machine at each letter
abbrev pub invariant-loop-letter : goal.invariant-loop-letter
invariant-loop-letter l = IsMachine l.machine
