use Rattle.transcript_law.proofs.Within.{run-within}
use Rattle.transcript_law.proofs.law.every_run_is_within.Goals as goal

pub returns : goal.returns
returns c = run-within
