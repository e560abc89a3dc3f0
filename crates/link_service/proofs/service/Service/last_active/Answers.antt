use Rattle.std.proofs.Common.{◌∙◌}
use Rattle.link_service.specs.Service.{state_of}
use Rattle.link_service.proofs.Active.{if_some, none_of, none-started}
use Rattle.link_service.proofs.service.Service.last_active.Goals as goal

pub returns-clause-last : goal.returns-clause-last
returns-clause-last c = rw (← c.self.view_is) (if_some _ _ c.last_active.ensures)

pub returns-clause-none : goal.returns-clause-none
unfolding state_of
returns-clause-none c =
    rw (← c.self.view_is)
    (λ none. none-started c.args.p (record { version = c.self.inside.version; homes = c.self.inside.homes.items; made = c.self.inside.made.items; links = c.self.inside.links; processes = c.self.inside.processes })
    c.self.invariant (none_of c.last_active.result none ∙ c.last_active.ensures))
