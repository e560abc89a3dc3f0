use Rattle.std.proofs.Common.{◌≡◌, All, length}
use Rattle.plan_run.proofs.nodes.parts_of.Given as goal

abbrev pub invariant-loop : goal.invariant-loop
invariant-loop l = (length l.parts.items ≡ l.counter) × All (λ part. part.0.limit ≡ l.fn.turns) l.parts.items
