-- Where all packets go to one kernel, it is there.
use Rattle.std.proofs.Common.{◌<◌, length, subst, sym, rules}
use Rattle.kernel_named.specs.Named.{GoWithin}
use Rattle.kernel_nodes.proofs.Targets.{all-there}
use Rattle.kernel_nodes.proofs.node.Node.send_some.Goals as goal

pub send_whole-requires-clause-there : goal.send_whole-requires-clause-there
send_whole-requires-clause-there c =
    all-there _ c.in-Some.to c.as_slice.result.now (subst (GoWithin (length c.args.self.now.sent.items)) (sym c.as_slice.ensures.value) c.requires) c.in-Some.ensures.some c.in-Some.ensures.all

pub index-requires : goal.index-requires
index-requires c =
    let there : c.in-Some.to < length c.args.self.now.sent.items
    = all-there _ c.in-Some.to c.as_slice.result.now (subst (GoWithin (length c.args.self.now.sent.items)) (sym c.as_slice.ensures.value) c.requires) c.in-Some.ensures.some c.in-Some.ensures.all in
    search rules
