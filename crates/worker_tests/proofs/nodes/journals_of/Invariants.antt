use Rattle.std.proofs.Common.{◌≡◌, ◌+◌, length}
use Rattle.worker_tests.proofs.nodes.journals_of.Given as goal

abbrev pub invariant-loop-node : goal.invariant-loop-node
invariant-loop-node l = length l.journals.items + length l.node-iterator.rest.items ≡ length l.fn.nodes.items
