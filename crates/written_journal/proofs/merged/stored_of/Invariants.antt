use Rattle.std.proofs.Common.{◌≡◌}
use Rattle.written_journal.proofs.merged.stored_of.Given as goal

abbrev pub invariant-loop-journal : goal.invariant-loop-journal
invariant-loop-journal l = l.stored.items ≡ l.yielded
