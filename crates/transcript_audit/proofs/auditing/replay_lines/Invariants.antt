use Rattle.std.proofs.Common.{◌≡◌, ℕ, List, length}
use Rattle.transcript_audit.proofs.Taken.{IsGoing}
use Rattle.transcript_reader.specs.Lines.{unread}
use Rattle.transcript_audit.proofs.auditing.replay_lines.Given as goal

abbrev pub invariant-loop-replay : goal.invariant-loop-replay
invariant-loop-replay l = (bytes : List ℕ) → l.fn.reader ≡ unread bytes → IsGoing bytes l.reader l.replay

abbrev pub decreases-loop-replay : goal.decreases-loop-replay
decreases-loop-replay l = length l.reader.texts
