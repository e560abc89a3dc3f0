use Rattle.transcript_reader.proofs.Told.{told_transcript}
use Rattle.transcript_reader.proofs.law.told_is_written.Goals as goal

pub returns : goal.returns
returns c = told_transcript
