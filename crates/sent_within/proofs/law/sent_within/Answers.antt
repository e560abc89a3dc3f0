-- The induction along the run.
use Rattle.sent_within.proofs.Runs.{within}
use Rattle.sent_within.proofs.law.sent_within.Goals as goal

pub returns : goal.returns
returns c s es valid run = within s valid es run
