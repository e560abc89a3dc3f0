use Rattle.followed_links.proofs.Whole.{run-followed}
use Rattle.followed_links.proofs.law.links_of_a_run_are_followed.Goals as goal

pub returns : goal.returns
returns c = run-followed
