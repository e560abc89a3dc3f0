use Rattle.service_consistent.proofs.Laws.{consistent_after}
use Rattle.service_consistent.proofs.law.every_step_is_consistent.Goals as goal

pub returns : goal.returns
returns c = consistent_after
