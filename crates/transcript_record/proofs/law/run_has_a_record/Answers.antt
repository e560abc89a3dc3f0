use Rattle.transcript_record.proofs.Laws.{has_record}
use Rattle.transcript_record.proofs.law.run_has_a_record.Goals as goal

pub returns : goal.returns
returns c = has_record
