use Rattle.std.proofs.Common.{◌≡◌, true, sym, subst}
use Rattle.service_links.specs.Links.{ends_of}
use Rattle.service_processes.specs.Known.{known_of}
use Rattle.service_step.specs.Steps.{may_match}
use Rattle.link_service.specs.Service.{ServiceView, AreKnown, state_of}
use Rattle.link_service.proofs.Known.{AreKnown-matches, match-posted}
use Rattle.link_service.proofs.service.Service.match_ends.Goals as goal

pub invariant_of-self : goal.invariant_of-self
unfolding state_of
invariant_of-self c =
    subst (AreKnown (known_of c.self.inside.processes)) (sym c.match_send.ensures)
    (AreKnown-matches _ _ _ _ c.self.invariant (match-posted (ends_of c.self.inside.links) c.args.e c.args.n (subst (λ (v : ServiceView). may_match (state_of v).ends c.args.e c.args.n ≡ true) (sym c.self.view_is) c.requires)))
