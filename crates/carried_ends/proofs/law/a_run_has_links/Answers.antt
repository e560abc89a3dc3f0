use Rattle.carried_ends.proofs.Whole.{run-has-links}
use Rattle.carried_ends.proofs.law.a_run_has_links.Goals as goal

pub returns : goal.returns
returns c = run-has-links
