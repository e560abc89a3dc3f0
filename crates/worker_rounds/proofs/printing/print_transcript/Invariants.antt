use Rattle.std.proofs.Common.{length}
use Rattle.worker_rounds.proofs.printing.print_transcript.Given as goal

abbrev pub decreases-loop-line : goal.decreases-loop-line
decreases-loop-line l = length l.lines
