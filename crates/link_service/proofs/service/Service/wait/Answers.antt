use Rattle.std.proofs.Common.{sym, ◌∙◌, ap}
use Rattle.service_step.specs.State.{State, is_running, turns}
use Rattle.service_step.specs.declared.state.Phase.TheVariants.{Waiting}
use Rattle.link_service.specs.Service.{state_of}
use Rattle.link_service.proofs.Active.{running-there}
use Rattle.link_service.proofs.service.Service.wait.Goals as goal

pub turn-requires : goal.turn-requires
unfolding state_of
turn-requires c =
    running-there c.has_activity.new.self.processes c.args.p.0
    (ap (λ (s : State). is_running (s.process c.args.p.0).phase) c.has_activity.ensures.same ∙ sym c.runs.ensures.runs ∙ c.if-not-runs.false)

pub returns-clause-ok : goal.returns-clause-ok
returns-clause-ok c =
    record {
      allowed = (sym c.runs.ensures.runs ∙ c.if-not-runs.false, c.has_activity.ensures.active.0 c.if-not-has_activity.false);
      after = c.turn.ensures ∙ ap (λ (s : State). record s { process = turns c.args.p Waiting s.process }) c.has_activity.ensures.same;
    }
