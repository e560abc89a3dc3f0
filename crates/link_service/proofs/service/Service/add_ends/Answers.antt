use Rattle.std.proofs.Common.{◌≡◌, true, sym, subst}
use Rattle.charlotte_calls.specs.declared.names.Side.TheVariants.{A, B}
use Rattle.service_processes.specs.Known.{known_of}
use Rattle.link_service.specs.Service.{ServiceView, AreKnown}
use Rattle.link_service.proofs.Known.{AreKnown-adds}
use Rattle.link_service.proofs.service.Service.add_ends.Goals as goal

pub invariant_of-self : goal.invariant_of-self
invariant_of-self c = subst (AreKnown (known_of c.self.inside.processes)) (sym c.in_err-add.ensures.err) c.self.invariant

pub invariant_of-self-2 : goal.invariant_of-self-2
invariant_of-self-2 c =
    subst (AreKnown (known_of c.self.inside.processes)) (sym c.in_ok-add.ensures.ok)
    (AreKnown-adds _ (record { link = c.args.link; side = A }) (record { link = c.args.link; side = B }) c.args.owners.0 c.args.owners.1 _ c.self.invariant
    (subst (λ (v : ServiceView). (known_of v.processes).held c.args.owners.0.0 (record { link = c.args.link; side = A }) ≡ true) (sym c.self.view_is) c.requires.first)
    (subst (λ (v : ServiceView). (known_of v.processes).held c.args.owners.1.0 (record { link = c.args.link; side = B }) ≡ true) (sym c.self.view_is) c.requires.second))
