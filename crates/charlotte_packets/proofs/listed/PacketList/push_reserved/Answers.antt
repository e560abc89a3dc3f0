use Rattle.std.proofs.Common.{◌≡◌, ◌<◌, ◌+◌, ◌++◌, length, vec_capacity, vec_len, sym, subst, arith, rules}
use Rattle.std.proofs.lemmas.List.{length-append}
use Rattle.charlotte_packets.specs.Sent.{ListView, most_whole}
use Rattle.charlotte_packets.proofs.Sent.{one-in-front}
use Rattle.charlotte_packets.proofs.listed.PacketList.push_reserved.Goals as goal

pub push_reserved-requires : goal.push_reserved-requires
push_reserved-requires c =
    let len : vec_len c.self.inside.whole ≡ length c.self.inside.whole.items = search rules in
    let few : length c.self.inside.whole.items < most_whole = search rules in
    let less : length (c.self.inside.whole.items ++ c.self.inside.behind.items) < c.self.inside.fits = subst (λ (v : ListView). length v.items < v.fits) (sym c.self.view_is) c.requires in
    let long : length (c.self.inside.whole.items ++ c.self.inside.behind.items) ≡ length c.self.inside.whole.items + length c.self.inside.behind.items =
    length-append c.self.inside.whole.items c.self.inside.behind.items in
    let room : length c.self.inside.whole.items < vec_capacity c.self.inside.whole = c.self.invariant.first (length c.self.inside.whole.items) few (omega (arith, less, long)) in
    omega (arith, len, room)

pub invariant_of-self : goal.invariant_of-self
invariant_of-self c =
    let few : length c.self.inside.whole.items < most_whole = search rules in
    let less : length (c.self.inside.whole.items ++ c.self.inside.behind.items) < c.self.inside.fits = subst (λ (v : ListView). length v.items < v.fits) (sym c.self.view_is) c.requires in
    record {
      few = λ _. c.self.invariant.few few;
      first = λ n less fits. subst (λ room. n < room) (sym c.push_reserved.ensures.capacity) (c.self.invariant.first n less fits);
      others = c.self.invariant.others;
      room = c.self.invariant.room;
      within = one-in-front _ _ _ _ _ less c.push_reserved.ensures.items;
    }
