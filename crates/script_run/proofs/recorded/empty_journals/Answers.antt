use Rattle.std.proofs.Common.{◌≡◌, ◌+◌, ◌++◌, ◌∷◌, [], length, ap, ◌∙◌}
use Rattle.std.proofs.lemmas.List.{length_push}
use Rattle.std.proofs.lemmas.List.Elements.{All-push, All-same}
use Rattle.script_run.proofs.Performances.{IsEmptyJournal}
use Rattle.script_run.proofs.recorded.empty_journals.Goals as goal

pub loop-preserved : goal.loop-preserved
loop-preserved c =
    let items : c.push.new.self.items ≡ c.loop.journals.items ++ c.start.result ∷ [] = c.in_ok-push.ensures.items in (
      ap length items ∙ length_push c.loop.journals.items c.start.result ∙ ap (λ n. n + 1) c.loop.invariant.0,
      All-same IsEmptyJournal _ _ items (All-push IsEmptyJournal c.loop.journals.items c.start.result c.loop.invariant.1 c.start.ensures.entries),
    )
