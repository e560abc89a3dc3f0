use Rattle.std.proofs.Common.{sym, subst}
use Rattle.link_service.specs.Service.{ServiceView, HasIdleLast}
use Rattle.link_service.proofs.Active.{loses-known, loses-one, last-there}
use Rattle.link_service.proofs.service.Service.forget_last_active.Goals as goal

pub forget_last_active-requires : goal.forget_last_active-requires
forget_last_active-requires c =
    last-there c.args.p (record { version = c.self.inside.version; homes = c.self.inside.homes.items; made = c.self.inside.made.items; links = c.self.inside.links; processes = c.self.inside.processes })
    (subst (λ (v : ServiceView). HasIdleLast c.args.p v) (sym c.self.view_is) c.requires)

pub invariant_of-self : goal.invariant_of-self
invariant_of-self c =
    loses-known c.args.p (record { version = c.self.inside.version; homes = c.self.inside.homes.items; made = c.self.inside.made.items; links = c.self.inside.links; processes = c.self.inside.processes }) _
    c.self.invariant (subst (λ (v : ServiceView). HasIdleLast c.args.p v) (sym c.self.view_is) c.requires) c.forget_last_active.ensures.loses

pub returns-clause-fewer : goal.returns-clause-fewer
returns-clause-fewer c =
    rw (← c.self.view_is)
    (loses-one c.args.p (record { version = c.self.inside.version; homes = c.self.inside.homes.items; made = c.self.inside.made.items; links = c.self.inside.links; processes = c.self.inside.processes }) _
    c.self.invariant (subst (λ (v : ServiceView). HasIdleLast c.args.p v) (sym c.self.view_is) c.requires) c.forget_last_active.ensures.loses)
