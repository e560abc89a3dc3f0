use Rattle.std.proofs.Common.{◌≡◌}
use Rattle.transcript_replay.specs.Header.{tell_all}
use Rattle.transcript_why.specs.Before.{first_lines}
use Rattle.transcript_why.proofs.reached.tell_lines.Given as goal

abbrev pub invariant-loop : goal.invariant-loop
invariant-loop l = (l.draft ≡ tell_all (first_lines l.counter l.fn.reader).0 l.fn.draft) × (l.reader ≡ (first_lines l.counter l.fn.reader).1)
