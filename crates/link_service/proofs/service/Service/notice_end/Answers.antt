use Rattle.std.proofs.Common.{sym, subst}
use Rattle.service_processes.specs.Known.{known_of}
use Rattle.service_step.specs.Ends.{waiting_message, carried_by}
use Rattle.link_service.specs.Service.{ServiceView, AreKnown, OwnerKnows, state_of}
use Rattle.link_service.proofs.Known.{AreKnown-notices}
use Rattle.link_service.proofs.service.Service.notice_end.Goals as goal

pub invariant_of-self : goal.invariant_of-self
unfolding state_of
invariant_of-self c =
    subst (AreKnown (known_of c.self.inside.processes)) (sym c.notice.ensures)
    (AreKnown-notices _ _ _ c.self.invariant (subst (λ (v : ServiceView). OwnerKnows v c.args.e (carried_by (waiting_message ((state_of v).ends c.args.e).outward))) (sym c.self.view_is) c.requires).all)
