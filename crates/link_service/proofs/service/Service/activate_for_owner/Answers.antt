use Rattle.std.proofs.Common.{ap, ◌∙◌}
use Rattle.service_step.specs.Ends.{owner}
use Rattle.service_step.specs.declared.state.End.{End}
use Rattle.link_service.proofs.Known.{owner-there}
use Rattle.link_service.proofs.service.Service.activate_for_owner.Goals as goal

pub activate-requires : goal.activate-requires
activate-requires c =
    owner-there (record { version = c.self.inside.version; homes = c.self.inside.homes.items; made = c.self.inside.made.items; links = c.self.inside.links; processes = c.self.inside.processes }) c.args.e c.in-Some.p c.self.invariant
    (c.in-Some.ensures ∙ ap (λ (x : End). owner x.place) c.look.ensures)
