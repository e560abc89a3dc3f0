use Rattle.service_custody.proofs.Phases.{phases-next}
use Rattle.service_custody.proofs.law.processes_go_on.Goals as goal

pub returns : goal.returns
returns c = phases-next
