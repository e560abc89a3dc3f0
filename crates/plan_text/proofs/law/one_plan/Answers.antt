use Rattle.plan_text.proofs.Again as again
use Rattle.plan_text.proofs.law.one_plan.Goals as goal

pub returns : goal.returns
returns c = again.one_plan
