use Rattle.std.proofs.Common.{◌≡◌, [], ◌∙◌, sym, rules}
use Rattle.packet_queue.proofs.Pictures.{some-pictures}
use Rattle.packet_queue.proofs.queue.PacketQueue.push.Goals.{else-is_empty-via-then-is_empty+else-len-lt-MOST_IN_FRONT, else-is_empty-via-else-is_empty}
use Rattle.packet_queue.proofs.queue.PacketQueue.push.Goals as goal

pub push_behind-requires : goal.push_behind-requires
push_behind-requires c =
    let some : c.self.inside.front.items ≡ [] → ⊥ = elim c.else-is_empty.branch [
      | else-is_empty-via-then-is_empty+else-len-lt-MOST_IN_FRONT w ↦ search rules
      | else-is_empty-via-else-is_empty w ↦ search rules
    ] in
    let found = some-pictures c.self.inside.front.items c.self.inside.behind.items some in
    (found.0, found.1, sym c.self.view_is ∙ found.2)
