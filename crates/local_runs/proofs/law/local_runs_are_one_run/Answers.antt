use Rattle.local_runs.proofs.Together.{one_run}
use Rattle.local_runs.proofs.law.local_runs_are_one_run.Goals as goal

pub returns : goal.returns
returns c = one_run
