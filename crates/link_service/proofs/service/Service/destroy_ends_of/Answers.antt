use Rattle.std.proofs.Common.{sym, subst}
use Rattle.service_processes.specs.Known.{known_of}
use Rattle.link_service.specs.Service.{AreKnown, state_of}
use Rattle.link_service.proofs.Active.{owned-held}
use Rattle.link_service.proofs.Known.{AreKnown-destroys_each}
use Rattle.link_service.proofs.service.Service.destroy_ends_of.Goals as goal

pub invariant_of-self : goal.invariant_of-self
invariant_of-self c =
    subst (AreKnown (known_of c.self.inside.processes)) (sym c.destroy_each.ensures)
    (AreKnown-destroys_each _ _ _ _ c.self.invariant)

pub returns-clause-all : goal.returns-clause-all
unfolding state_of
returns-clause-all c = rw (← c.self.view_is) (owned-held c.args.p (record { version = c.self.inside.version; homes = c.self.inside.homes.items; made = c.self.inside.made.items; links = c.self.inside.links; processes = c.self.inside.processes }) c.self.invariant)
