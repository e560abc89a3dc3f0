use Rattle.std.proofs.Common.{◌≡◌, ◌<◌, List, length, refl, subst, sym, rules}
use Rattle.charlotte_packets.specs.Packets.{packet_picture, what_picture}
use Rattle.charlotte_calls.specs.declared.setting.Setting.{Setting as ASetting}
use Rattle.kernel_nodes.specs.declared.node.Node.{Node}
use Rattle.kernel_nodes.proofs.Worlds.{from_there, told_first, untold_none, untold_other}
use Rattle.kernel_nodes.proofs.nodes.Nodes.take_told.Goals as goal

pub returns-in_default : goal.returns-in_default
returns-in_default c s are =
    untold_none s c.args.self.now.nodes.items c.args.from c.args.to c.args.what.now c.args.self.now.nodes.items (c.in_default.ensures s)

pub returns-then-not-is_told : goal.returns-then-not-is_told
returns-then-not-is_told c s are =
    let other : what_picture c.in-Some.packet.now.what ≡ c.args.what.now → ⊥ = search rules in
    untold_other s c.args.self.now.nodes.items c.args.from c.args.to c.in-Some.packet.now c.args.what.now c.args.self.now.nodes.items (c.in-Some.ensures s) other

pub take_first-requires : goal.take_first-requires
take_first-requires c =
    let s : ASetting = c.requires.0 in
    let ns : List Node = c.args.self.now.nodes.items in
    let below : c.args.to < length ns = search rules in (
      s,
      packet_picture c.in-Some.packet.now,
      c.requires.1,
      from_there s ns c.args.from c.args.to (packet_picture c.in-Some.packet.now) c.requires.1 (c.in-Some.ensures s),
      subst (λ n. c.args.to < n) c.requires.1.count below,
      sym (c.in-Some.ensures s),
    )

pub returns : goal.returns
returns c s are =
    let below : c.args.to < length c.args.self.now.nodes.items = search rules in
    told_first s c.args.self.now.nodes.items c.args.from c.args.to c.in-Some.packet.now c.args.what.now c.in_ok-noted.noted c.take_first.new.self.nodes.items are below (c.in-Some.ensures s) (c.if-not-is_told.ensures.0 refl) (c.in_ok-noted.ensures s are)
