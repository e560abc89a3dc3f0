use Rattle.std.proofs.Common.{◌≡◌, map}
use Rattle.written_journal.specs.Given.{all_of}
use Rattle.written_journal.proofs.merged.readers_of.Given as goal

abbrev pub invariant-loop-journal : goal.invariant-loop-journal
invariant-loop-journal l = l.readers.items ≡ map all_of l.yielded
