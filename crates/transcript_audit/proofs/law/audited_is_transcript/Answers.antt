use Rattle.transcript_audit.proofs.Told.{audited-is-transcript}
use Rattle.transcript_audit.proofs.law.audited_is_transcript.Goals as goal

pub returns : goal.returns
returns c = audited-is-transcript
