use Rattle.local_runs.proofs.Apart.{run-apart}
use Rattle.local_runs.proofs.law.run_is_local_runs.Goals as goal

pub returns : goal.returns
returns c = run-apart
