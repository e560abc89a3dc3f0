use Rattle.std.proofs.Common.{◌≡◌, length}
use Rattle.run_counts.specs.Lines.{with_lines}
use Rattle.run_counts.proofs.lines.count_lines.Given as goal

abbrev pub invariant-loop-line : goal.invariant-loop-line
invariant-loop-line l = with_lines l.version l.lines l.counts ≡ with_lines l.fn.version l.fn.lines l.fn.counts

abbrev pub decreases-loop-line : goal.decreases-loop-line
decreases-loop-line l = length l.lines
