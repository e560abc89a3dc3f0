use Rattle.process_changes.proofs.AtEnd.{changes_at}
use Rattle.request_runs.proofs.law.changes_are_seen_at_ends.Goals as goal

pub returns : goal.returns
returns c = changes_at
