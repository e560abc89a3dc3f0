use Rattle.kernel_nodes.proofs.Started.{IsStarting}
use Rattle.kernel_nodes.proofs.nodes.Nodes.start.Given as goal

abbrev pub invariant-loop-id : goal.invariant-loop-id
invariant-loop-id l = IsStarting l.setting l.id l.nodes.items
