use Rattle.plan_run.proofs.Complete.{run-complete}
use Rattle.plan_run.proofs.law.run_is_complete.Goals as goal

pub returns : goal.returns
returns g c = run-complete (record { step = g.P.Program.step; state = g.P.Program.state; last = g.P.Program.last; version = g.P.Program.version })
