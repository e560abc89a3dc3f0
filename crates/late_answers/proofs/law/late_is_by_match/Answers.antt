use Rattle.local_runs.proofs.Together.{one_run}
use Rattle.late_answers.proofs.Run.{late-by_match}
use Rattle.late_answers.proofs.law.late_is_by_match.Goals as goal
use Rattle.theorem.proofs.Record.{record-is-lawful}

pub returns : goal.returns
returns c s made left merged k p e w valid fit order entries few =
    let is = one_run s made left merged fit order entries few in
    late-by_match s merged k (made k) p e w valid (record-is-lawful s is.events merged valid is.recorded) (fit.each k) (entries k)
