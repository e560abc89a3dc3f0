use Rattle.std.proofs.Common.{◌∙◌, ◌++◌, ◌∷◌, [], ap, List}
use Rattle.service_step.specs.declared.state.End.{End}
use Rattle.service_links.proofs.Changed.{ends_of-push}
use Rattle.service_links.specs.Links.{ends_of}
use Rattle.service_links.proofs.links.Links.reach.Goals as goal

pub loop-alloc-preserved : goal.loop-alloc-preserved
loop-alloc-preserved c =
    record {
      same = ap ends_of c.in_ok-push.ensures.items ∙ ap (λ (r : List (End × End)). ends_of (c.loop-alloc.self-inside.rows.items ++ r ∷ [])) c.empty.ensures ∙ ends_of-push _ ∙ c.loop-alloc.invariant.same;
      none = c.loop-alloc.invariant.none;
    }
