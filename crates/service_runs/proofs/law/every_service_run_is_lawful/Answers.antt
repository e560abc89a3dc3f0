use Rattle.service_runs.proofs.Lawful.{runs_are_lawful}
use Rattle.service_runs.proofs.law.every_service_run_is_lawful.Goals as goal

pub returns : goal.returns
returns c = runs_are_lawful
