use Rattle.std.proofs.Common.{◌<◌, length, rules}
use Rattle.kernel_nodes.proofs.Events.{if_ok}
use Rattle.kernel_nodes.proofs.Worlds.{call_happens}
use Rattle.kernel_nodes.proofs.nodes.Nodes.ask.Goals as goal

pub returns : goal.returns
returns c =
    let below : c.from.result < length c.args.self.now.nodes.items = search rules in
    if_ok c.ask.result
    (λ noted did s are. call_happens s c.args.self.now.nodes.items c.args.kernel c.from.result c.index_mut.result.now c.ask.new.self c.args.request.now.p c.args.request.now.call noted are c.from.ensures below c.index_mut.ensures.value did)
    c.ask.ensures.after
