use Rattle.std.proofs.Common.{◌≡◌, ◌<◌, true, length, sym, subst}
use Rattle.charlotte_calls.specs.Names.{opposite}
use Rattle.service_step.specs.Ends.{is_owned_by}
use Rattle.link_service.specs.Service.{ServiceView, state_of}
use Rattle.link_service.proofs.Known.{owned-there}
use Rattle.link_service.proofs.service.Service.learn_message.Goals as goal

pub learn_each-requires : goal.learn_each-requires
unfolding state_of
learn_each-requires c =
    owned-there (record { version = c.self.inside.version; homes = c.self.inside.homes.items; made = c.self.inside.made.items; links = c.self.inside.links; processes = c.self.inside.processes }) (opposite c.args.e) c.args.p c.self.invariant
    (subst (λ (v : ServiceView). is_owned_by c.args.p ((state_of v).ends (opposite c.args.e)).place ≡ true) (sym c.self.view_is) c.requires)

pub returns-in-Some-clause-there : goal.returns-in-Some-clause-there
unfolding state_of
returns-in-Some-clause-there c =
    subst (λ n. c.args.p.0 < n) (sym c.learn_each.ensures.count)
    (owned-there (record { version = c.self.inside.version; homes = c.self.inside.homes.items; made = c.self.inside.made.items; links = c.self.inside.links; processes = c.self.inside.processes }) (opposite c.args.e) c.args.p c.self.invariant
    (subst (λ (v : ServiceView). is_owned_by c.args.p ((state_of v).ends (opposite c.args.e)).place ≡ true) (sym c.self.view_is) c.requires))

pub returns-in-None-clause-there : goal.returns-in-None-clause-there
unfolding state_of
returns-in-None-clause-there c =
    subst (λ (v : ServiceView). c.args.p.0 < length v.processes) c.self.view_is
    (owned-there (record { version = c.self.inside.version; homes = c.self.inside.homes.items; made = c.self.inside.made.items; links = c.self.inside.links; processes = c.self.inside.processes }) (opposite c.args.e) c.args.p c.self.invariant
    (subst (λ (v : ServiceView). is_owned_by c.args.p ((state_of v).ends (opposite c.args.e)).place ≡ true) (sym c.self.view_is) c.requires))
