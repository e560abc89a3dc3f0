use Rattle.std.proofs.Common.{◌≡◌, All, take}
use Rattle.journal_text.specs.Journal.{AreRising}
use Rattle.written_journal.specs.Merging.{journals_of}
use Rattle.written_journal.proofs.merging.queues_of.Given as goal

abbrev pub invariant-loop-journal : goal.invariant-loop-journal
invariant-loop-journal l = (l.queues.items ≡ journals_of (take l.journal-index l.journals)) × All AreRising l.queues.items
