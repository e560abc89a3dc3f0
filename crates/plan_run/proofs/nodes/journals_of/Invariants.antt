use Rattle.std.proofs.Common.{◌≡◌, map}
use Rattle.plan_run.proofs.nodes.journals_of.Given as goal

abbrev pub invariant-loop-node : goal.invariant-loop-node
invariant-loop-node g l = l.journals.items ≡ map (λ n. n.base.journal) l.yielded
