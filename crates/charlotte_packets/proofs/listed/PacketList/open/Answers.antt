use Rattle.std.proofs.Common.{◌≡◌, ◌<◌, ◌+◌, ◌^◌, ◌++◌, length, subst, arith}
use Rattle.std.proofs.lemmas.List.{length-append}
use Rattle.charlotte_packets.specs.Sent.{ListView}
use Rattle.charlotte_packets.proofs.listed.PacketList.open.Goals as goal

pub returns-clause-few : goal.returns-clause-few
returns-clause-few c =
    let long : length (c.self.inside.whole.items ++ c.self.inside.behind.items) ≡ length c.self.inside.whole.items + length c.self.inside.behind.items =
    length-append c.self.inside.whole.items c.self.inside.behind.items in
    subst (λ (v : ListView). length v.items < 2 ^ 63) c.self.view_is (omega (arith, long, c.self.invariant.within, c.self.invariant.room))
