use Rattle.transcript_law.proofs.Lawful.{replay-is-lawful}
use Rattle.transcript_law.proofs.law.every_replay_is_lawful.Goals as goal

pub returns : goal.returns
returns c = replay-is-lawful
