use Rattle.request_runs.proofs.Ways.{next_way}
use Rattle.request_runs.proofs.law.ways_go_on.Goals as goal

pub returns : goal.returns
returns c = next_way
