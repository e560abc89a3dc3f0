use Rattle.written_journal.proofs.Journals.{start-stored}
use Rattle.written_journal.proofs.stored.Stored.start.Goals as goal

pub invariant_of-result : goal.invariant_of-result
invariant_of-result c = start-stored c.nothing.result c.nothing-2.result c.new.result.told c.nothing.ensures c.nothing-2.ensures c.new.ensures
