use Rattle.request_runs.proofs.Events.{has_all_ends}
use Rattle.request_runs.proofs.law.events_keep_ends.Goals as goal

pub returns : goal.returns
returns c = has_all_ends
