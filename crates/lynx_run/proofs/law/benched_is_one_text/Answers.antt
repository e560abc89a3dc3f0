use Rattle.lynx_run.proofs.Once.{summed-once}
use Rattle.lynx_run.proofs.law.benched_is_one_text.Goals as goal

pub returns : goal.returns
returns c = summed-once
