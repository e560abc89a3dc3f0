use Rattle.std.proofs.Common.{◌+◌, length, ap, sym, ◌∙◌}
use Rattle.kernel_net.proofs.Rings.{looks}
use Rattle.kernel_net.proofs.ring.Getter.meet.Goals as goal

pub returns-clause-looks : goal.returns-clause-looks
returns-clause-looks c =
    let first = c.slots_beside.ensures in
    let second = c.slots_beside-2.ensures in
    rw (← c.putter.view_is, ← c.self.view_is)
    (looks c.putter.inside.ring c.slots_beside.new.self c.slots_beside-2.new.producer c.self.inside.ring c.slots_beside.new.consumer c.slots_beside-2.new.self first.looked first.consumer
    (ap (λ n. n + length c.slots_beside.new.self.end.past) (sym first.value) ∙ first.all_free) second.looked second.producer second.fifo)
