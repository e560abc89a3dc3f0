use Rattle.machine_law.proofs.Actions.{law}
use Rattle.machine_law.proofs.law.actions_are_bounded.Goals as goal

pub returns : goal.returns
returns c = law
