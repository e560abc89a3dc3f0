use Rattle.std.proofs.Common.{All, sym, subst}
use Rattle.service_processes.specs.Known.{known_of, IsKnown}
use Rattle.service_step.specs.Ends.{waiting_message, carried_by}
use Rattle.link_service.specs.Service.{ServiceView, AreKnown, state_of}
use Rattle.link_service.proofs.Known.{AreKnown-withdraws_send}
use Rattle.link_service.proofs.service.Service.withdraw_send.Goals as goal

pub invariant_of-self : goal.invariant_of-self
unfolding state_of
invariant_of-self c =
    subst (AreKnown (known_of c.self.inside.processes)) (sym c.withdraw_send.ensures)
    (AreKnown-withdraws_send _ _ _ _ c.self.invariant (subst (λ (v : ServiceView). All (IsKnown (known_of v.processes) c.args.p) (carried_by (waiting_message ((state_of v).ends c.args.e).outward))) (sym c.self.view_is) c.requires))
