use Rattle.script_run.specs.Recorded.{AreQuietBelow}
use Rattle.script_run.proofs.Settling.{IsSettling}
use Rattle.script_run.proofs.lines.settle.Given as goal

abbrev pub invariant-loop : goal.invariant-loop
invariant-loop l = record {
  settling : IsSettling l.setting l.setting.kernels 10000 l.counter l.fn.run l.run;
  quiet : AreQuietBelow l.setting.kernels l.quiet l.run;
}
