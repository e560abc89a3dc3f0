use Rattle.machine_law.proofs.Actions.{asked_law}
use Rattle.machine_law.proofs.law.actions_begin_or_close.Goals as goal

pub returns : goal.returns
returns c = asked_law
