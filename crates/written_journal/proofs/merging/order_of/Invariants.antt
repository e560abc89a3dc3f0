use Rattle.std.proofs.Common.{length}
use Rattle.std.specs.List.{sum_by}
use Rattle.written_journal.specs.Merging.{journals_of}
use Rattle.written_journal.proofs.Merges.{IsMerging}
use Rattle.written_journal.proofs.merging.order_of.Given as goal

abbrev pub invariant-loop-head : goal.invariant-loop-head
invariant-loop-head l = IsMerging (journals_of l.fn.journals) l.queues.items l.order

abbrev pub decreases-loop-head : goal.decreases-loop-head
decreases-loop-head l = sum_by length l.queues.items
