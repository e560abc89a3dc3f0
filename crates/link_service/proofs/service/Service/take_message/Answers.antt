use Rattle.std.proofs.Common.{◌≡◌, true, All, sym, subst}
use Rattle.service_processes.specs.Known.{known_of, IsKnown}
use Rattle.service_step.specs.Ends.{is_started_outward, matched_message, carried_by}
use Rattle.link_service.specs.Service.{ServiceView, AreKnown, state_of}
use Rattle.link_service.proofs.Known.{AreKnown-takes}
use Rattle.link_service.proofs.service.Service.take_message.Goals as goal

pub invariant_of-self : goal.invariant_of-self
unfolding state_of
invariant_of-self c =
    subst (AreKnown (known_of c.self.inside.processes)) (sym c.take_message.ensures.ends)
    (AreKnown-takes _ _ _ _ c.self.invariant (subst (λ (v : ServiceView). is_started_outward ((state_of v).ends c.args.e).outward ≡ true) (sym c.self.view_is) c.requires.started)
    (subst (λ (v : ServiceView). All (IsKnown (known_of v.processes) c.args.p) (carried_by (matched_message ((state_of v).ends c.args.e).outward))) (sym c.self.view_is) c.requires.known))
