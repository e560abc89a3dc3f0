use Rattle.std.proofs.Common.{◌<◌, ◌∙◌, length, rules}
use Rattle.kernel_nodes.proofs.Sent.{sent_in-others, sent_in-read}
use Rattle.kernel_nodes.proofs.node.Node.lift.Goals as goal

pub returns-clause-queue : goal.returns-clause-queue
returns-clause-queue c =
    let below : c.from.result < length c.args.self.now.sent.items = search rules in
    c.open.ensures.same ∙ sent_in-read c.args.self.now.sent.items c.from.result c.args.to c.index_mut.result.now c.from.ensures below c.index_mut.ensures.value

pub returns-clause-others : goal.returns-clause-others
returns-clause-others c = sent_in-others c.args.self.now.sent.items c.from.result c.args.to _ c.from.ensures
