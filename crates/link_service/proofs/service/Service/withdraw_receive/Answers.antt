use Rattle.std.proofs.Common.{◌≡◌, true, sym, subst}
use Rattle.service_processes.specs.Known.{known_of}
use Rattle.service_step.specs.Ends.{is_posted}
use Rattle.link_service.specs.Service.{ServiceView, AreKnown, state_of}
use Rattle.link_service.proofs.Known.{AreKnown-goes_on}
use Rattle.link_service.proofs.service.Service.withdraw_receive.Goals as goal

pub invariant_of-self : goal.invariant_of-self
unfolding state_of
invariant_of-self c =
    subst (AreKnown (known_of c.self.inside.processes)) (sym c.turn_inward.ensures)
    (AreKnown-goes_on _ _ _ _ c.self.invariant (subst (λ (v : ServiceView). is_posted ((state_of v).ends c.args.e).inward ≡ true) (sym c.self.view_is) c.requires))
