use Rattle.theorem.proofs.Record.{record-is-lawful}
use Rattle.theorem.proofs.law.every_record_is_lawful.Goals as goal

pub returns : goal.returns
returns c = record-is-lawful
