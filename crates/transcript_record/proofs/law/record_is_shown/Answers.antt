use Rattle.transcript_record.proofs.Laws.{record-shown}
use Rattle.transcript_record.proofs.law.record_is_shown.Goals as goal

pub returns : goal.returns
returns c = record-shown
