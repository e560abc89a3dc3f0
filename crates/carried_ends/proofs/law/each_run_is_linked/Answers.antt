use Rattle.carried_ends.proofs.Whole.{acts-linked}
use Rattle.carried_ends.proofs.law.each_run_is_linked.Goals as goal

pub returns : goal.returns
returns c = acts-linked
