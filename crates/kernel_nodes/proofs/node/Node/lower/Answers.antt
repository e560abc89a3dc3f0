use Rattle.std.proofs.Common.{◌<◌, ◌∙◌, length, rules}
use Rattle.kernel_nodes.proofs.Sent.{sent_in-others, sent_in-set}
use Rattle.kernel_nodes.proofs.node.Node.lower.Goals as goal

pub returns-clause-queue : goal.returns-clause-queue
returns-clause-queue c =
    let below : c.from.result < length c.args.self.now.sent.items = search rules in
    sent_in-set c.args.self.now.sent.items c.from.result c.args.to c.in_ok-left.left c.from.ensures below ∙ c.in_ok-left.ensures

pub returns-clause-others : goal.returns-clause-others
returns-clause-others c = sent_in-others c.args.self.now.sent.items c.from.result c.args.to c.in_ok-left.left c.from.ensures
