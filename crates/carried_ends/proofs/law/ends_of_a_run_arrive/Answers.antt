use Rattle.carried_ends.proofs.Whole.{run-arrives}
use Rattle.carried_ends.proofs.law.ends_of_a_run_arrive.Goals as goal

pub returns : goal.returns
returns c = run-arrives
