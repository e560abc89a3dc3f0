use Rattle.request_runs.proofs.Told.{told_becomes}
use Rattle.request_runs.proofs.law.tellings_are_events.Goals as goal

pub returns : goal.returns
returns c = told_becomes
