use Rattle.std.proofs.Common.{◌∷◌, [], sym, subst}
use Rattle.service_processes.specs.Known.{known_of}
use Rattle.link_service.specs.Service.{ServiceView, AreKnown, OwnerKnows, state_of}
use Rattle.link_service.proofs.Known.{AreKnown-starts_send, owner-first}
use Rattle.link_service.proofs.service.Service.start_send.Goals as goal

pub invariant_of-self : goal.invariant_of-self
unfolding state_of
invariant_of-self c =
    subst (AreKnown (known_of c.self.inside.processes)) (sym c.start_send.ensures)
    (AreKnown-starts_send _ _ _ _ _ c.self.invariant (owner-first _ _ (subst (λ (v : ServiceView). OwnerKnows v c.args.e (c.args.e ∷ [])) (sym c.self.view_is) c.requires.known)))
