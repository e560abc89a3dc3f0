use Rattle.theorem.proofs.Run.{run-is-lawful}
use Rattle.theorem.proofs.law.every_run_is_lawful.Goals as goal

pub returns : goal.returns
returns c = run-is-lawful
