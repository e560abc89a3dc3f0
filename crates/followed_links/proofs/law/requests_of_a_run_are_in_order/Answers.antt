use Rattle.followed_links.proofs.Whole.{run-in-order}
use Rattle.followed_links.proofs.law.requests_of_a_run_are_in_order.Goals as goal

pub returns : goal.returns
returns c = run-in-order
