use Rattle.lynx_run.proofs.Once.{driven-once}
use Rattle.lynx_run.proofs.law.driven_is_one_text.Goals as goal

pub returns : goal.returns
returns c = driven-once
