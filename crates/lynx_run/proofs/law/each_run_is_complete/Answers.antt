use Rattle.lynx_run.proofs.Complete.{run-complete}
use Rattle.lynx_run.proofs.law.each_run_is_complete.Goals as goal

pub returns : goal.returns
returns c = run-complete
