use Rattle.machine_law.proofs.Actions.{law_from_start}
use Rattle.machine_law.proofs.law.all_actions_are_bounded.Goals as goal

pub returns : goal.returns
returns c = law_from_start
