use Rattle.carried_ends.proofs.Whole.{run-carried}
use Rattle.carried_ends.proofs.law.ends_of_a_run_are_carried.Goals as goal

pub returns : goal.returns
returns c = run-carried
