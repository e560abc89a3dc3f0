use Rattle.std.proofs.Common.{ap, ◌∙◌}
use Rattle.charlotte_packets.specs.Sent.{ListView}
use Rattle.charlotte_packets.proofs.Sent.{none-listed}
use Rattle.charlotte_packets.proofs.listed.PacketList.reserve_many.Goals as goal

pub invariant_of-self : goal.invariant_of-self
invariant_of-self c = none-listed c.self.inside.whole.items _ _ c.self.inside.behind (ap (λ (v : ListView). v.items) c.self.view_is ∙ c.requires) c.reserve.ensures.items

pub invariant_of-self-in_err-self-inside : goal.invariant_of-self-in_err-self-inside
invariant_of-self-in_err-self-inside c = none-listed c.self.inside.whole.items _ _ c.self.inside.behind (ap (λ (v : ListView). v.items) c.self.view_is ∙ c.requires) c.reserve.ensures.items
