use Rattle.journal_text.specs.Heads.{IsFirstBelow}
use Rattle.written_journal.proofs.merging.first_head.Given as goal

abbrev pub invariant-loop-kernel : goal.invariant-loop-kernel
invariant-loop-kernel l = IsFirstBelow l.queues l.kernel l.first
