use Rattle.std.proofs.Common.{◌≡◌, ◌<◌, length, sym, ap, subst}
use Rattle.std.specs.Prelude.{IfOk, IfSome}
use Rattle.machine_values.specs.Told.{values_of}
use Rattle.process_run.specs.Reports.{free_from}
use Rattle.process_run.specs.States.{State}
use Rattle.lynx_rt.proofs.Spawning.{begun_below, begun_number}
use Rattle.lynx_rt.proofs.process.Running.begin.Goals as goal
use Rattle.lynx_rt.proofs.process.Running.begin.Goals.{in-Ok, in-Err}

pub returns-clause-number : goal.returns-clause-number
returns-clause-number c =
    elim c.match-spawn.branch [
      | in-Ok w ↦ subst (λ r. IfOk r (λ thread. thread ≡ free_from 0 c.args.self.now.turns.threads)) (sym w.result-is)
          (begun_number w.in-Ok.thread c.args.entry (values_of c.args.values.items) c.self.inside.machine c.spawn.new.self c.args.self.now (ap (λ (s : State). s.turns) c.self.view_is)
          c.requires.process w.in-Ok.ensures.full w.in-Ok.ensures.spawned w.in-Ok.ensures.first)
      | in-Err w ↦ subst (λ r. IfOk r (λ thread. thread ≡ free_from 0 c.args.self.now.turns.threads)) (sym w.result-is) tt
    ]

pub returns-clause-below : goal.returns-clause-below
returns-clause-below c =
    elim c.match-spawn.branch [
      | in-Ok w ↦ subst (λ r. IfOk r (λ thread. IfSome thread (λ n. n < length c.args.self.now.opened))) (sym w.result-is)
          (begun_below w.in-Ok.thread c.args.entry (values_of c.args.values.items) c.self.inside.machine c.spawn.new.self c.args.self.now (ap (λ (s : State). s.turns) c.self.view_is)
          c.requires.process w.in-Ok.ensures.spawned)
      | in-Err w ↦ subst (λ r. IfOk r (λ thread. IfSome thread (λ n. n < length c.args.self.now.opened))) (sym w.result-is) tt
    ]
