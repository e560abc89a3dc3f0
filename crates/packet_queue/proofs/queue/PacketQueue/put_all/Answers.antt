use Rattle.std.proofs.Common.{◌≡◌, map, ap, append-nil, ◌∙◌, rules}
use Rattle.packet_queue.specs.Queue.{picture_in, pictures}
use Rattle.packet_queue.proofs.Pictures.{none-behind}
use Rattle.packet_queue.proofs.queue.PacketQueue.put_all.Goals as goal

pub invariant_of-self : goal.invariant_of-self
invariant_of-self c = λ _. none-behind c.self.inside.front.items c.self.inside.behind.items (c.self.view_is ∙ c.requires)

pub returns : goal.returns
returns c =
    let put : c.replace.new.dest.items ≡ c.args.packets.items = search rules in
    ap (pictures c.replace.new.dest.items) (none-behind c.self.inside.front.items c.self.inside.behind.items (c.self.view_is ∙ c.requires))
    ∙ append-nil (map picture_in c.replace.new.dest.items) ∙ ap (map picture_in) put
