use Rattle.request_runs.proofs.Changing.{changes_become}
use Rattle.request_runs.proofs.law.changes_are_events.Goals as goal

pub returns : goal.returns
returns c = changes_become
