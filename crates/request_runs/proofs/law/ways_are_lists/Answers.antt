use Rattle.request_runs.proofs.Ways.{way_there}
use Rattle.request_runs.proofs.law.ways_are_lists.Goals as goal

pub returns : goal.returns
returns c = way_there
