use Rattle.script_run.specs.Recorded.{AreQuietBelow}
use Rattle.script_run.proofs.lines.first_sent.Given as goal

abbrev pub invariant-loop-from : goal.invariant-loop-from
invariant-loop-from l = AreQuietBelow l.kernels l.from l.run
