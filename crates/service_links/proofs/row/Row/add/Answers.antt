use Rattle.std.proofs.Common.{◌∙◌}
use Rattle.service_links.proofs.Changed.{link_at-puts}
use Rattle.service_links.specs.Links.{puts_link}
use Rattle.service_links.proofs.row.Row.add.Goals as goal

pub returns-clause-ok : goal.returns-clause-ok
returns-clause-ok c =
    rw (c.self.view_is)
    (link_at-puts c.reach.new.self c.args.number c.fresh.result c.in_ok-reach.ensures.long ∙ (λ i. puts_link c.args.number (c.fresh.ensures i) (c.reach.ensures.same i)))
