use Rattle.process_changes.proofs.Steps.{step_changes}
use Rattle.request_runs.proofs.law.steps_change_ends.Goals as goal

pub returns : goal.returns
returns c = step_changes
