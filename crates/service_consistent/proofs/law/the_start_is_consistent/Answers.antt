use Rattle.service_consistent.proofs.Starts.{consistent_start}
use Rattle.service_consistent.proofs.law.the_start_is_consistent.Goals as goal

pub returns : goal.returns
returns c = consistent_start
