use Rattle.transcript_audit.proofs.Told.{record-is-audited}
use Rattle.transcript_audit.proofs.law.record_is_audited.Goals as goal

pub returns : goal.returns
returns c = record-is-audited
