use Rattle.std.proofs.Common.{◌∙◌, ◌++◌, ◌∷◌, [], ap}
use Rattle.service_step.specs.declared.state.End.{End}
use Rattle.service_links.proofs.Changed.{link_at-push}
use Rattle.service_links.specs.Links.{link_at}
use Rattle.service_links.proofs.row.Row.reach.Goals as goal

pub loop-self-preserved : goal.loop-self-preserved
loop-self-preserved c =
    ap link_at c.in_ok-push.ensures.items ∙ ap (λ (x : End × End). link_at (c.loop-self.self-inside.links.items ++ x ∷ [])) c.unmade.ensures
    ∙ link_at-push _ ∙ c.loop-self.invariant
