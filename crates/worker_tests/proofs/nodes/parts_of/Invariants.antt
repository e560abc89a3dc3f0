use Rattle.std.proofs.Common.{◌≡◌, ◌≤◌, All, length}
use Rattle.worker_tests.proofs.nodes.parts_of.Given as goal

abbrev pub invariant-loop-kernel : goal.invariant-loop-kernel
invariant-loop-kernel l = (length l.parts.items ≡ l.kernel) × All (λ part. part.0.limit ≤ 100000) l.parts.items
