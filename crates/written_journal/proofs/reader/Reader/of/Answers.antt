use Rattle.written_journal.proofs.Given.{start-place}
use Rattle.written_journal.proofs.reader.Reader.of.Goals as goal

pub invariant_of-result : goal.invariant_of-result
invariant_of-result c = start-place c.args.journal.entries
