use Rattle.std.proofs.Common.{◌<◌, length, rules}
use Rattle.kernel_nodes.proofs.Worlds.{world_kept}
use Rattle.kernel_nodes.proofs.nodes.Nodes.reuse.Goals as goal

pub returns-then-from-len : goal.returns-then-from-len
returns-then-from-len c s are =
    let below : c.from-then-from-len.result < length c.args.self.now.nodes.items = search rules in
    world_kept s c.args.self.now.nodes.items c.from-then-from-len.result c.index_mut.result.now c.reuse.new.self are below c.index_mut.ensures.value c.reuse.ensures.kernel c.reuse.ensures.sent
