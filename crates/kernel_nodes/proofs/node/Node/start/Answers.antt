use Rattle.kernel_nodes.proofs.Sent.{nothing_sent}
use Rattle.kernel_nodes.proofs.node.Node.start.Goals as goal

pub returns-clause-sent : goal.returns-clause-sent
returns-clause-sent c = nothing_sent c.in_ok-empty_queues.field-0.items c.in_ok-empty_queues.ensures.1
