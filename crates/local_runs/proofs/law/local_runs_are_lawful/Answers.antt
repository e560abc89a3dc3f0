use Rattle.theorem.proofs.Record.{record-is-lawful}
use Rattle.local_runs.proofs.Together.{one_run}
use Rattle.local_runs.proofs.law.local_runs_are_lawful.Goals as goal

pub returns : goal.returns
returns c s made left merged valid fit order entries few =
    let is = one_run s made left merged fit order entries few in
    record-is-lawful s is.events merged valid is.recorded
