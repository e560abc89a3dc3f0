use Rattle.std.proofs.Common.{length}
use Rattle.script_run.proofs.Performances.{AreLinesSoFar}
use Rattle.script_run.proofs.performance.do_lines.Given as goal

abbrev pub invariant-loop-line : goal.invariant-loop-line
invariant-loop-line l = AreLinesSoFar l.setting l.fn.lines l.lines l.notes.items l.fn.run l.run

abbrev pub decreases-loop-line : goal.decreases-loop-line
decreases-loop-line l = length l.lines
