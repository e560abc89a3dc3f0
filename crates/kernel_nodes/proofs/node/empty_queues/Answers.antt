use Rattle.std.proofs.Common.{◌≡◌, ◌+◌, ◌++◌, ◌∷◌, [], length, ap, ◌∙◌}
use Rattle.std.proofs.lemmas.List.{length_push}
use Rattle.std.proofs.lemmas.List.Elements.{All-push, All-same}
use Rattle.kernel_nodes.proofs.Sent.{IsEmptyQueue}
use Rattle.kernel_nodes.proofs.node.empty_queues.Goals as goal

pub loop-preserved : goal.loop-preserved
loop-preserved c =
    let items : c.push.new.self.items ≡ c.loop.queues.items ++ c.new.result ∷ [] = c.in_ok-push.ensures.items in (
      ap length items ∙ length_push c.loop.queues.items c.new.result ∙ ap (λ n. n + 1) c.loop.invariant.0,
      All-same IsEmptyQueue _ _ items (All-push IsEmptyQueue c.loop.queues.items c.new.result c.loop.invariant.1 c.new.ensures),
    )
