-- Where ends leave in a packet, of what is true of every world all stays that is not about the packet.
use Rattle.std.proofs.Common.{◌≡◌, ◌⊎◌, ◌↔◌, inl, inr, ℕ, ◌+◌, ◌-◌, ◌^◌, ◌<◌, ◌≤◌, true, false, min, List, Contains, Some, refl, sym, ap, subst, ◌∙◌, arith, true≢false}
use Rattle.std.proofs.Math.Nat.{min-le_left}
use Rattle.charlotte_calls.specs.Names.{opposite}
use Rattle.charlotte_calls.specs.declared.names.EndId.{EndId}
use Rattle.charlotte_calls.specs.declared.names.Pid.{Pid}
use Rattle.charlotte_packets.specs.declared.picture.MovingPicture.{MovingPicture}
use Rattle.charlotte_packets.specs.declared.picture.PictureWhat.{PictureWhat}
use Rattle.charlotte_packets.specs.declared.picture.PictureWhat.TheVariants as packet
use Rattle.end_table.specs.Entries.{gains_one, left_value}
use Rattle.end_table.specs.Table.{IfHere, IsHereAnd, IsIdle}
use Rattle.end_table.specs.declared.entry.Entry.{Entry}
use Rattle.end_table.specs.declared.entry.Entry.TheVariants as entry
use Rattle.end_table.specs.declared.entry.HereView.{HereView}
use Rattle.end_table.specs.declared.entry.Holder.TheVariants as holder
use Rattle.end_table.specs.declared.entry.Inward.TheVariants as kernel_inward
use Rattle.end_table.specs.declared.entry.Outward.{Outward as KernelOutward}
use Rattle.kernel_step.specs.Actions.{is_withdrawing}
use Rattle.service_change.proofs.Facts.{busy-inward, busy-outward}
use Rattle.service_lawful.specs.Consistent.{is_open}
use Rattle.service_step.specs.Ends.{is_idle, is_living, is_posted}
use Rattle.service_step.specs.State.{State}
use Rattle.service_step.specs.declared.state.End.{End}
use Rattle.service_step.specs.declared.state.Message.{Message}
use Rattle.service_step.specs.declared.state.Outward.TheVariants as outward
use Rattle.service_step.specs.declared.state.Place.{Place}
use Rattle.service_step.specs.declared.state.Place.TheVariants as place
use Rattle.theorem_meaning.proofs.Plain.{asked-busy, view-same}
use Rattle.theorem_meaning.specs.Fields.{Stand, At, Flying, HasFields, IsAskedAs, IsAsking, IsHeard, IsNews, IsNoMore, IsUnserved, IsUnwantOf, value_of}
use Rattle.theorem_meaning.specs.Invariant.{AreAsked, AreCancelling, AreCounted, AreMarked, AreWanted, IsFew, IsHonest, IsPacketRight, IsServed}
use Rattle.theorem_meaning.specs.Packets.{IsUnderWay, Links}
use Rattle.theorem_meaning.specs.StandsFor.{IsEndOf, IsInwardOf, IsOutwardOf, IsOwnedHere, entry_at, home_of}
use Rattle.theorem_match.specs.Carrying.{HasLeft, IsAway, IsCarrying, IsTurned}

-- ---- what is away

pub away-value : (x : Entry) (m : MovingPicture) → IsAway x → value_of x ≡ Some m → ⊥
away-value entry.Nothing m away has = cc
away-value (entry.Left to hops) m away has = cc
away-value _ m away has = absurd away

pub away-here : (x : Entry) (P : HereView → Type 0) → IsAway x → IsHereAnd x P → ⊥
away-here entry.Nothing P away has = has
away-here (entry.Left to hops) P away has = has
away-here _ P away has = absurd away

pub away-view : (x : Entry) (v : HereView) → IsAway x → x ≡ entry.Here v → ⊥
away-view x v away here = subst IsAway here away

away-mark : (x : Entry) (m : MovingPicture) → IsAway x → x ≡ entry.Destroyed m → ⊥
away-mark x m away there = subst IsAway there away

-- an end that is idle has no activity
pub idle-view : (x : Entry) (P : HereView → Type 0) → ((v : HereView) → IsIdle v → P v → ⊥) → IfHere x IsIdle → IsHereAnd x P → ⊥
idle-view (entry.Here v) P none idle has = none v idle has
idle-view _ P none idle has = has

posted-busy : (x : End) → is_posted x.inward ≡ true → is_idle x ≡ true → ⊥
posted-busy x posts idle = true≢false (sym idle ∙ busy-inward x (λ is. true≢false (sym posts ∙ ap is_posted is)))

matched-busy : (x : End) (m : Message) → x.outward ≡ outward.Matched m → is_idle x ≡ true → ⊥
matched-busy x m matched idle = true≢false (sym idle ∙ busy-outward x (λ is. let no : outward.Idle ≡ outward.Matched m = sym is ∙ matched in cc))

taken-busy : (x : End) → x.outward ≡ outward.Taken → is_idle x ≡ true → ⊥
taken-busy x taken idle = true≢false (sym idle ∙ busy-outward x (λ is. let no : outward.Idle ≡ outward.Taken = sym is ∙ taken in cc))

withdrawing-busy : (v : HereView) → IsIdle v → is_withdrawing v.inward ≡ true → ⊥
withdrawing-busy v idle withdraws = true≢false (sym withdraws ∙ ap is_withdrawing idle.inward)

-- one hop more, where none came to its end
pub hops-more : (i h : ℕ) → h ≤ i → i < 2 ^ 32 - 1 → gains_one h ≡ h + 1
hops-more i h few room = min-is (h + 1) (2 ^ 32 - 1) (omega (arith, few, room))
  where
    min-is : (a b : ℕ) → a ≤ b → min a b ≡ a
    min-is a b least = omega (arith, least)

at-most : (st : Stand) (hops j h : ℕ) → IsNoMore st hops j h → h ≤ hops
at-most (At k) hops j h is = is.0
at-most Flying hops j h is = omega (arith, is)

-- t are the ends of the service afterwards
module _ {w u : Links} {k : ℕ} {xs : List EndId} {mine : EndId} (s : State) (is : IsCarrying w u s.ends k xs mine) (t : EndId → End) (ends : (q : EndId) → t q ≡ record (s.ends q) { outward = (t q).outward; inward = (t q).inward }) where
  -- ---- the ends of the service

  pub place-same : (q : EndId) → (t q).place ≡ (s.ends q).place
  place-same q = ap (λ (x : End). x.place) (ends q)

  pub noticed-same : (q : EndId) → (t q).noticed ≡ (s.ends q).noticed
  noticed-same q = ap (λ (x : End). x.noticed) (ends q)

  pub sent-same : (q : EndId) → (t q).sent ≡ (s.ends q).sent
  sent-same q = ap (λ (x : End). x.sent) (ends q)

  open-same : (q : EndId) → is_open (t q) ≡ is_open (s.ends q)
  open-same q = ap (λ (x : End). is_open x) (ends q)

  living-was : (q : EndId) → is_living (t q).place ≡ true → is_living (s.ends q).place ≡ true
  living-was q = subst (λ (z : Place). is_living z ≡ true) (place-same q)

  -- ---- entries

  -- the view that an end had
  pub seen : (j : ℕ) (e : EndId) (x : HereView) → entry_at u j e ≡ entry.Here x → (y : HereView) × (entry_at w j e ≡ entry.Here y) × (x ≡ record y { outward = x.outward }) × ((x ≡ y) ⊎ (e ≡ mine))
  seen j e x here = by (is.entry j e)
    where
      own : IsTurned (entry_at w j e) (entry_at u j e) → e ≡ mine → (y : HereView) × (entry_at w j e ≡ entry.Here y) × (x ≡ record y { outward = x.outward }) × ((x ≡ y) ⊎ (e ≡ mine))
      own turned at =
          let same : turned.new ≡ x = view-same turned.new x (sym turned.now ∙ here) in
          (turned.old, turned.was, subst (λ (z : HereView). z ≡ record turned.old { outward = z.outward }) same turned.like, inr at)

      by : (entry_at u j e ≡ entry_at w j e) ⊎ (Contains xs e × IsAway (entry_at u j e)) ⊎ ((e ≡ mine) × IsTurned (entry_at w j e) (entry_at u j e))
          → (y : HereView) × (entry_at w j e ≡ entry.Here y) × (x ≡ record y { outward = x.outward }) × ((x ≡ y) ⊎ (e ≡ mine))
      by (inl same) = (x, sym same ∙ here, refl, inl refl)
      by (inr (inl away)) = absurd (away-view (entry_at u j e) x away.1 here)
      by (inr (inr turned)) = own turned.1 turned.0

  -- what is true of the view of an end, whatever its activity outward
  pub was : (j : ℕ) (e : EndId) (P : HereView → Type 0) → ((v : HereView) (o : KernelOutward) → P (record v { outward = o }) → P v) → IsHereAnd (entry_at u j e) P → IsHereAnd (entry_at w j e) P
  was j e P back has = by (is.entry j e)
    where
      by : (entry_at u j e ≡ entry_at w j e) ⊎ (Contains xs e × IsAway (entry_at u j e)) ⊎ ((e ≡ mine) × IsTurned (entry_at w j e) (entry_at u j e)) → IsHereAnd (entry_at w j e) P
      by (inl same) = subst (λ x. IsHereAnd x P) same has
      by (inr (inl away)) = absurd (away-here (entry_at u j e) P away.1 has)
      by (inr (inr turned)) =
          let x = turned.1 in
          subst (λ z. IsHereAnd z P) (sym x.was) (back x.old x.new.outward (subst P x.like (subst (λ z. IsHereAnd z P) x.now has)))

  pub still : (j : ℕ) (e : EndId) (P : HereView → Type 0) → ((v : HereView) (o : KernelOutward) → P v → P (record v { outward = o })) → (Contains xs e → ⊥) → IsHereAnd (entry_at w j e) P → IsHereAnd (entry_at u j e) P
  still j e P on stays has = by (is.entry j e)
    where
      by : (entry_at u j e ≡ entry_at w j e) ⊎ (Contains xs e × IsAway (entry_at u j e)) ⊎ ((e ≡ mine) × IsTurned (entry_at w j e) (entry_at u j e)) → IsHereAnd (entry_at u j e) P
      by (inl same) = subst (λ x. IsHereAnd x P) (sym same) has
      by (inr (inl away)) = absurd (stays away.0)
      by (inr (inr turned)) =
          let x = turned.1 in
          subst (λ z. IsHereAnd z P) (sym x.now) (subst P (sym x.like) (on x.old x.new.outward (subst (λ z. IsHereAnd z P) x.was has)))

  -- and is true of no idle one
  pub busy : (j : ℕ) (e : EndId) (P : HereView → Type 0) → ((v : HereView) (o : KernelOutward) → P v → P (record v { outward = o })) → ((v : HereView) → IsIdle v → P v → ⊥) → IsHereAnd (entry_at w j e) P → IsHereAnd (entry_at u j e) P
  busy j e P on none has = still j e P on (λ among. idle-view (entry_at w j e) P none (is.resting j e among) has) has

  withdrawing-still : (j : ℕ) (e : EndId) → IsHereAnd (entry_at w j e) (λ v. is_withdrawing v.inward ≡ true) → IsHereAnd (entry_at u j e) (λ v. is_withdrawing v.inward ≡ true)
  withdrawing-still j e = busy j e (λ v. is_withdrawing v.inward ≡ true) (λ v o has. has) withdrawing-busy

  pub mark-was : (j : ℕ) (e : EndId) (m : MovingPicture) → entry_at u j e ≡ entry.Destroyed m → entry_at w j e ≡ entry.Destroyed m
  mark-was j e m there = by (is.entry j e)
    where
      by : (entry_at u j e ≡ entry_at w j e) ⊎ (Contains xs e × IsAway (entry_at u j e)) ⊎ ((e ≡ mine) × IsTurned (entry_at w j e) (entry_at u j e)) → entry_at w j e ≡ entry.Destroyed m
      by (inl same) = sym same ∙ there
      by (inr (inl away)) = absurd (away-mark (entry_at u j e) m away.1 there)
      by (inr (inr turned)) = absurd (let no : entry.Here turned.1.new ≡ entry.Destroyed m = sym turned.1.now ∙ there in cc)

  -- ---- fields

  -- the fields that an end had
  pub fields-was : (e : EndId) (at : Stand) (m : MovingPicture) → HasFields u e at m
      → (o : MovingPicture) × (st : Stand) × HasFields w e st o × (m ≡ record o { hops = m.hops; trail = m.trail }) × (((st ≡ at) × (m ≡ o)) ⊎ (Contains xs e × (at ≡ Flying) × (m ≡ left_value k o)))
  fields-was e at m has = by (is.fields e at m has)
    where
      by : HasFields w e at m ⊎ (Contains xs e × (at ≡ Flying) × HasLeft w k e m)
          → (o : MovingPicture) × (st : Stand) × HasFields w e st o × (m ≡ record o { hops = m.hops; trail = m.trail }) × (((st ≡ at) × (m ≡ o)) ⊎ (Contains xs e × (at ≡ Flying) × (m ≡ left_value k o)))
      by (inl had) = (m, at, had, refl, inl (refl, refl))
      by (inr left) =
          let o = left.2 in
          (o.value, o.stand, o.had, subst (λ (z : MovingPicture). z ≡ record o.value { hops = z.hops; trail = z.trail }) (sym o.left) refl, inr (left.0, left.1, o.left))

  -- ---- what is true of every world

  pub few-carried : (i : ℕ) → ((e : EndId) (at : Stand) (m : MovingPicture) → HasFields w e at m → IsFew i m) → (e : EndId) (at : Stand) (m : MovingPicture) → HasFields u e at m → IsFew (i + 1) m
  few-carried i few e at m has =
      let o = fields-was e at m has in
      let old = few e o.1 o.0 o.2 in
      let sent : m.sent ≡ o.0.sent = ap (λ (z : MovingPicture). z.sent) o.3 in
      let asked : m.asked ≡ o.0.asked = ap (λ (z : MovingPicture). z.asked) o.3 in
      record { hops = by o.0 o.1 old.hops o.4; sent = omega (arith, sent, old.sent); asked = omega (arith, asked, old.asked) }
    where
      by : (o : MovingPicture) (st : Stand) → o.hops ≤ i → ((st ≡ at) × (m ≡ o)) ⊎ (Contains xs e × (at ≡ Flying) × (m ≡ left_value k o)) → m.hops ≤ i + 1
      by o st least (inl same) = let count : m.hops ≡ o.hops = ap (λ (z : MovingPicture). z.hops) same.1 in omega (arith, least, count)
      by o st least (inr left) =
          let count : m.hops ≡ gains_one o.hops = ap (λ (z : MovingPicture). z.hops) left.2 in
          let most : gains_one o.hops ≤ o.hops + 1 = min-le_left (o.hops + 1) (2 ^ 32 - 1) in
          omega (arith, least, count, most)

  pub marked-carried : (e : EndId) → AreMarked w s.ends e → AreMarked u t e
  marked-carried e old =
      record {
        destroyed = λ j m there. place-same e ∙ old.destroyed j m (mark-was j e m there);
        once = λ i j m l here there. old.once i j m l (mark-was i e m here) (mark-was j e l there);
      }

  pub counted-carried : (e : EndId) → AreCounted w s.ends e → AreCounted u t e
  counted-carried e old =
      record {
        sent = λ at m lives has. let o = fields-was e at m has in ap (λ (z : MovingPicture). z.sent) o.3 ∙ old.sent o.1 o.0 (living-was e lives) o.2 ∙ sym (sent-same e);
        dead = λ at m lives has. let o = fields-was e at m has in ap (λ (z : MovingPicture). z.dead) o.3 ∙ old.dead o.1 o.0 (living-was e lives) o.2 ∙ sym (noticed-same e);
        unwanted = λ at m lives noticed has. let o = fields-was e at m has in ap (λ (z : MovingPicture). z.want) o.3 ∙ old.unwanted o.1 o.0 (living-was e lives) (sym (noticed-same e) ∙ noticed) o.2;
      }

  -- news that no packet told before names where its end is
  abbrev pub IsTrueNews : EndId → ℕ → ℕ → Type 0
  IsTrueNews e j h = (Contains xs e → ⊥) × ((at : Stand) (m : MovingPicture) → HasFields w e at m → (at ≡ At j) × (m.hops ≡ h))

  pub honest-carried : (i : ℕ) → i < 2 ^ 32 - 1 → ((e : EndId) (at : Stand) (m : MovingPicture) → HasFields w e at m → IsFew i m)
      → ((e : EndId) (j h : ℕ) → IsUnderWay u (IsNews (opposite e) j h) → IsUnderWay w (IsNews (opposite e) j h) ⊎ IsTrueNews e j h) → ((e : EndId) → IsHonest w e) → (e : EndId) → IsHonest u e
  honest-carried i room few news old e at m j h has heard = let o = fields-was e at m has in by o.0 o.1 o.2 o.4 (before heard)
    where
      before : IsHeard u e j h → IsHeard w e j h ⊎ IsTrueNews e j h
      before (inl x) =
          let z = fields-was (opposite e) x.stand x.fields x.are in
          inl (inl (record { stand = z.1; fields = z.0; are = z.2; hint = sym (ap (λ (l : MovingPicture). l.hint) z.3) ∙ x.hint }))
      before (inr x) = told (news e j h x)
        where
          told : IsUnderWay w (IsNews (opposite e) j h) ⊎ IsTrueNews e j h → IsHeard w e j h ⊎ IsTrueNews e j h
          told (inl x) = inl (inr x)
          told (inr true_is) = inr true_is

      by : (o : MovingPicture) (st : Stand) → HasFields w e st o → ((st ≡ at) × (m ≡ o)) ⊎ (Contains xs e × (at ≡ Flying) × (m ≡ left_value k o)) → IsHeard w e j h ⊎ IsTrueNews e j h → IsNoMore at m.hops j h
      by o st had (inl same) (inl heard) =
          subst (λ (z : MovingPicture). IsNoMore at z.hops j h) (sym same.1) (subst (λ z. IsNoMore z o.hops j h) same.0 (old e st o j h had heard))
      by o st had (inl same) (inr true_is) =
          let f = true_is.1 st o had in
          let count : m.hops ≡ h = ap (λ (z : MovingPicture). z.hops) same.1 ∙ f.1 in
          subst (λ z. IsNoMore z m.hops j h) (sym f.0 ∙ same.0) (omega (arith, count), λ is_same. refl)
      by o st had (inr left) (inl heard) =
          let most : h ≤ o.hops = at-most st o.hops j h (old e st o j h had heard) in
          let count : m.hops ≡ gains_one o.hops = ap (λ (z : MovingPicture). z.hops) left.2 in
          let more : gains_one o.hops ≡ o.hops + 1 = hops-more i o.hops (few e st o had).hops room in
          subst (λ z. IsNoMore z m.hops j h) (sym left.1) (omega (arith, most, count, more))
      by o st had (inr left) (inr true_is) = absurd (true_is.0 left.0)

  pub asked-carried : (e : EndId) → AreAsked w s e → AreAsked u (record s { ends = t }) e
  asked-carried e old =
      record {
        last = λ j x n here asked.
            let y = seen j e x here in
            old.last j y.0 n y.1 (subst (IsAskedAs n) (ap (λ (z : HereView). z.inward) y.2) asked) ∙ sym (ap (λ (z : HereView). z.value.asked) y.2);
        cancelled = λ j x n p here withdraws held.
            let y = seen j e x here in
            old.cancelled j y.0 n p y.1 (sym (ap (λ (z : HereView). z.inward) y.2) ∙ withdraws) (sym (ap (λ (z : HereView). z.holder) y.2) ∙ held);
      }

  pub cancelling-carried : AreCancelling w s → AreCancelling u (record s { ends = t })
  cancelling-carried old p e cancels = withdrawing-still (home_of s p) e (old p e cancels)

  -- of an end whose receive is not matched now
  pub served-carried : (e : EndId) → (is_posted (t e).inward ≡ false → is_posted (s.ends e).inward ≡ false) → IsServed w s.ends e → IsServed u t e
  served-carried e unposted old j x n at m here asked posts lives has =
      let y = seen j e x here in
      let o = fields-was (opposite e) at m has in
      subst (λ z. n ≤ z) (sym (ap (λ (z : MovingPicture). z.served) o.3)) (old j y.0 n o.1 o.0 y.1 (subst (IsAskedAs n) (ap (λ (z : HereView). z.inward) y.2) asked) (unposted posts) (living-was (opposite e) lives) o.2)

  -- of an end of which nothing new is asked, and whose opposite's receive is not matched now
  pub wanted-carried : (e : EndId) → ((n j h : ℕ) → IsUnderWay u (IsAsking e n j h) → IsUnderWay w (IsAsking e n j h)) → ((n : ℕ) → IsUnderWay u (IsUnwantOf e n) → IsUnderWay w (IsUnwantOf e n))
      → (is_posted (s.ends (opposite e)).inward ≡ true → is_posted (t (opposite e)).inward ≡ true) → AreWanted w s.ends e → AreWanted u t e
  wanted-carried e asks unwants posts old =
      record {
        kept = λ at m opens has.
            let o = fields-was e at m has in
            subst (λ (z : MovingPicture). (z.want ≡ 0) ⊎ (z.served < z.want)) (sym o.3) (old.kept o.1 o.0 (opened opens) o.2);
        same = λ at m n j h l i g opens has one two. let o = fields-was e at m has in old.same o.1 o.0 n j h l i g (opened opens) o.2 (before m o.0 o.3 n j h one) (before m o.0 o.3 l i g two);
        posted = λ at m n j h opens has one. posts (posted at m n j h opens has one);
        site = λ at m n j h opens has one lives.
            let o = fields-was e at m has in
            still j (opposite e) (λ v. (v.value.hops ≡ h) × (v.value.asked ≡ n)) (λ v a has. has) (λ among. posted-busy (s.ends (opposite e)) (posted at m n j h opens has one) (is.idle (opposite e) among))
            (old.site o.1 o.0 n j h (opened opens) o.2 (before m o.0 o.3 n j h one) (living-was (opposite e) lives));
        unwanted = λ at m n opens has low one.
            let o = fields-was e at m has in
            let j = old.unwanted o.1 o.0 n (opened opens) o.2 (subst (λ z. z < n) (ap (λ (z : MovingPicture). z.served) o.3) low) (unwants n one) in
            (j.0, withdrawing-still j.0 (opposite e) j.1);
      }
    where
      opened : is_open (t e) ≡ true → is_open (s.ends e) ≡ true
      opened opens = sym (open-same e) ∙ opens

      before : (m o : MovingPicture) → m ≡ record o { hops = m.hops; trail = m.trail } → (n j h : ℕ) → IsUnserved u e m n j h → IsUnserved w e o n j h
      before m o like n j h (inl one) = inl (sym (ap (λ (z : MovingPicture). z.want) like) ∙ one.0, one.1, sym (ap (λ (z : MovingPicture). z.hint) like) ∙ one.2)
      before m o like n j h (inr one) = inr (subst (λ z. z < n) (ap (λ (z : MovingPicture). z.served) like) one.0, asks n j h one.1)

      posted : (at : Stand) (m : MovingPicture) (n j h : ℕ) → is_open (t e) ≡ true → HasFields u e at m → IsUnserved u e m n j h → is_posted (s.ends (opposite e)).inward ≡ true
      posted at m n j h opens has one = let o = fields-was e at m has in old.posted o.1 o.0 n j h (opened opens) o.2 (before m o.0 o.3 n j h one)

  -- a packet that was right, where messages that were matched or taken are so still
  pub right-carried : ((f : EndId) (m : Message) → (s.ends f).outward ≡ outward.Matched m → (t f).outward ≡ outward.Matched m) → ((f : EndId) → (s.ends f).outward ≡ outward.Taken → (t f).outward ≡ outward.Taken)
      → (from to : ℕ) (q : PictureWhat) → IsPacketRight w s.ends from to q → IsPacketRight u t from to q
  right-carried matched taken from to (packet.Parcel e n wanted at hops bytes ms) old =
      record {
        matched = matched (opposite e) _ old.matched;
        number = sent-same (opposite e) ∙ old.number;
        sender = old.sender;
        site = λ lives. still from (opposite e) (λ v. v.value.hops ≡ hops) (λ v o has. has) (λ among. matched-busy (s.ends (opposite e)) _ old.matched (is.idle (opposite e) among)) (old.site (living-was (opposite e) lives));
        meets = λ opens. busy to e (λ v. IsAskedAs wanted v.inward) (λ v o has. has) (asked-busy wanted) (old.meets (sym (open-same e) ∙ opens));
      }
  right-carried matched taken from to (packet.Back f n ms) old =
      record {
        matched = record { message = old.matched.message; matched = matched f old.matched.message old.matched.matched; carries = old.matched.carries; number = sent-same f ∙ old.matched.number };
        untaken = open-same (opposite f) ∙ old.untaken;
        site = λ lives. still to f (λ v. Unit {0}) (λ v o has. has) (λ among. matched-busy (s.ends f) old.matched.message old.matched.matched (is.idle f among)) (old.site (living-was f lives));
      }
  right-carried matched taken from to (packet.Taken f n at hops) old =
      record {
        taken = taken f old.taken;
        number = sent-same f ∙ old.number;
        taker = old.taker;
        site = λ lives. still to f (λ v. Unit {0}) (λ v o has. has) (λ among. taken-busy (s.ends f) old.taken (is.idle f among)) (old.site (living-was f lives));
      }
  right-carried matched taken from to (packet.Gone e at) old = place-same (opposite e) ∙ old
  right-carried matched taken from to (packet.Unwanted e n at hops) old = λ unaware.
      busy to e (λ v. v.inward ≡ kernel_inward.Withdrawing n) (λ v o has. has) (λ v idle has. let no : kernel_inward.Idle ≡ kernel_inward.Withdrawing n = sym idle.inward ∙ has in cc) (old (sym (noticed-same e) ∙ unaware))
  right-carried matched taken from to _ old = tt

  -- ---- clauses 3 to 5

  pub owned-carried : (e : EndId) (p : Pid) → ((s.ends e).place ≡ place.Owned p) ↔ IsOwnedHere p (entry_at w (home_of s p) e) → ((t e).place ≡ place.Owned p) ↔ IsOwnedHere p (entry_at u (home_of s p) e)
  owned-carried e p old = (
    λ at.
        let had : (s.ends e).place ≡ place.Owned p = sym (place-same e) ∙ at in
        still (home_of s p) e (λ v. v.holder ≡ holder.Owner p) (λ v o has. has) (λ among. is.unowned e p among had) (old.0 had),
    λ has. place-same e ∙ old.1 (was (home_of s p) e (λ v. v.holder ≡ holder.Owner p) (λ v o has. has) has),
  )

  -- of an end that was as the service says, where its activities are
  pub end-carried : (e : EndId) (x y : HereView) → x ≡ record y { outward = x.outward } → IsEndOf w e y (s.ends e) → IsOutwardOf u e (s.ends e).sent x.outward (t e).outward → IsInwardOf u e y.inward (t e).inward → IsEndOf u e x (t e)
  end-carried e x y like old out inn =
      record {
        sent = sent-same e ∙ old.sent ∙ sym (ap (λ (z : HereView). z.value.sent) like);
        noticed = noticed-same e ∙ old.noticed ∙ sym (ap (λ (z : HereView). z.value.dead) like);
        outward = subst (λ m. IsOutwardOf u e m x.outward (t e).outward) (sym (sent-same e)) out;
        inward = subst (λ i. IsInwardOf u e i (t e).inward) (sym (ap (λ (z : HereView). z.inward) like)) inn;
      }
