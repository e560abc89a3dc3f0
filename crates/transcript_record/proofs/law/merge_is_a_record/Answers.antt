use Rattle.transcript_record.proofs.Laws.{merge-record}
use Rattle.transcript_record.proofs.law.merge_is_a_record.Goals as goal

pub returns : goal.returns
returns c = merge-record
