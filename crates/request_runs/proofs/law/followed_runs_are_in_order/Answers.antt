use Rattle.request_runs.proofs.Followed.{followed_in_order}
use Rattle.request_runs.proofs.law.followed_runs_are_in_order.Goals as goal

pub returns : goal.returns
returns c = followed_in_order
