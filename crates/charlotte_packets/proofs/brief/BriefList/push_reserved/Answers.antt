use Rattle.std.proofs.Common.{◌≡◌, ◌<◌, ◌++◌, [], ◌∷◌, length, deque_len, deque_capacity, ap, sym, subst, ◌∙◌, arith, rules}
use Rattle.charlotte_packets.specs.Sent.{ListView}
use Rattle.charlotte_packets.proofs.Sent.{gone-brief, gone-sent, room-left, whole-brief, whole-sent}
use Rattle.charlotte_packets.proofs.brief.BriefList.push_reserved.Goals as goal

pub push_back_reserved-requires : goal.push_back_reserved-requires
push_back_reserved-requires c =
    let len : deque_len c.self.inside.briefs ≡ length c.self.inside.briefs.items = search rules in
    let room : (length c.self.inside.briefs.items < deque_capacity c.self.inside.briefs) × (length c.self.inside.whole.items < deque_capacity c.self.inside.whole) =
    room-left _ _ _ _ _ c.self.invariant (subst (λ (v : ListView). length v.items < v.fits) (sym c.self.view_is) c.requires) in
    omega (arith, len, room.0)

pub push_back_reserved-requires-in_default : goal.push_back_reserved-requires-in_default
push_back_reserved-requires-in_default c =
    let len : deque_len c.self.inside.whole ≡ length c.self.inside.whole.items = search rules in
    let room : (length c.self.inside.briefs.items < deque_capacity c.self.inside.briefs) × (length c.self.inside.whole.items < deque_capacity c.self.inside.whole) =
    room-left _ _ _ _ _ c.self.invariant (subst (λ (v : ListView). length v.items < v.fits) (sym c.self.view_is) c.requires) in
    omega (arith, len, room.1)

pub push_back_reserved-requires-in_default-2 : goal.push_back_reserved-requires-in_default-2
push_back_reserved-requires-in_default-2 c =
    let len : deque_len c.self.inside.briefs ≡ length c.self.inside.briefs.items = search rules in
    let room : (length c.self.inside.briefs.items < deque_capacity c.self.inside.briefs) × (length c.self.inside.whole.items < deque_capacity c.self.inside.whole) =
    room-left _ _ _ _ _ c.self.invariant (subst (λ (v : ListView). length v.items < v.fits) (sym c.self.view_is) c.requires) in
    omega (arith, len, room.0)

pub invariant_of-self : goal.invariant_of-self
invariant_of-self c =
    gone-brief c.self.inside.briefs.items _ c.self.inside.whole.items _ _ _ _ c.self.invariant c.args.sent.0 c.args.sent.1 c.push_back_reserved.ensures.capacity _ _ c.push_back_reserved.ensures.items

pub invariant_of-self-in_default : goal.invariant_of-self-in_default
invariant_of-self-in_default c =
    whole-brief c.self.inside.briefs.items _ c.self.inside.whole.items _ _ _ _ c.self.invariant c.args.sent.0 c.args.sent.1 c.push_back_reserved-in_default-2.ensures.capacity _ _
    c.push_back_reserved-in_default.ensures.capacity c.push_back_reserved-in_default.ensures.items c.push_back_reserved-in_default-2.ensures.items

pub returns-in-Gone-clause-items : goal.returns-in-Gone-clause-items
returns-in-Gone-clause-items c =
    gone-sent c.self.inside.briefs.items _ c.self.inside.whole.items _ _ _ _ c.self.invariant c.args.sent.0 c.args.sent.1 c.push_back_reserved.ensures.capacity _ _ c.in-Gone.is c.push_back_reserved.ensures.items
    ∙ ap (λ (v : ListView). v.items ++ c.args.sent ∷ []) c.self.view_is

pub returns-in_default : goal.returns-in_default
returns-in_default c =
    record {
      items = whole-sent c.self.inside.briefs.items _ c.self.inside.whole.items _ _ _ _ c.self.invariant c.args.sent.0 c.args.sent.1 c.push_back_reserved-in_default-2.ensures.capacity _
          c.push_back_reserved-in_default.ensures.items c.push_back_reserved-in_default-2.ensures.items
          ∙ ap (λ (v : ListView). v.items ++ c.args.sent ∷ []) c.self.view_is;
      fits = ap (λ (v : ListView). v.fits) c.self.view_is;
    }
