use Rattle.run_links.proofs.Plans.{plan-linked}
use Rattle.run_links.proofs.law.runs_of_plans_are_linked.Goals as goal

pub returns : goal.returns
returns c = λ name reads x programs turns ran loads within started. plan-linked x programs started name reads turns ran loads within
