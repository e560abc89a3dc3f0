use Rattle.kernel_journal.proofs.Replays.{IsReplayingTo}
use Rattle.kernel_journal.proofs.whole.replay.Given as goal

abbrev pub invariant-loop-line : goal.invariant-loop-line
invariant-loop-line l = IsReplayingTo l.lines l.line-index l.replay
