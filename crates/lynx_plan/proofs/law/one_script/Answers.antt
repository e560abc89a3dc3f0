use Rattle.lynx_plan.proofs.Again as again
use Rattle.lynx_plan.proofs.law.one_script.Goals as goal

pub returns : goal.returns
returns c = again.one_script
