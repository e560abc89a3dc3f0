use Rattle.std.proofs.Common.{◌<◌, length, rules}
use Rattle.kernel_nodes.proofs.Sent.{sent_in-whole}
use Rattle.kernel_nodes.proofs.node.Node.send_whole.Goals as goal

pub returns-clause-sent : goal.returns-clause-sent
returns-clause-sent c =
    let below : c.from.result < length c.args.self.now.sent.items = search rules in
    sent_in-whole c.args.self.now.sent.items c.from.result c.args.to c.put_all.new.self c.args.packets.items c.from.ensures below c.requires.none c.requires.together c.put_all.ensures
