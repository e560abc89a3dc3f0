use Rattle.std.proofs.Common.{◌≡◌, [], All, length}
use Rattle.kernel_nodes.proofs.node.empty_queues.Given as goal

abbrev pub invariant-loop : goal.invariant-loop
invariant-loop l = (length l.queues.items ≡ l.counter) × All (λ queue. queue ≡ []) l.queues.items
