use Rattle.transcript_reading.proofs.Wholes.{one}
use Rattle.transcript_reading.proofs.law.one_reading.Goals as goal

pub returns : goal.returns
returns c = one
