use Rattle.process_changes.proofs.ToldAt.{told_at}
use Rattle.request_runs.proofs.law.tellings_are_seen_at_ends.Goals as goal

pub returns : goal.returns
returns c = told_at
