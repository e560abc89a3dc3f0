-- An end that is here is owned by a process of its kernel, or enclosed in a message that waits there, of an end that such a process owns.
use Rattle.std.proofs.Common.{◌≡◌, ◌⊎◌, inl, inr, ℕ, ◌<◌, true, true≢false, List, length, slice_index, Contains, Some, refl, sym, ap, subst, ◌∙◌}
use Rattle.charlotte_calls.specs.declared.names.EndId.{EndId}
use Rattle.charlotte_calls.specs.declared.names.Pid.{Pid}
use Rattle.charlotte_calls.specs.declared.setting.Setting.{Setting}
use Rattle.charlotte_packets.specs.declared.picture.PictureWhat.{PictureWhat}
use Rattle.end_table.specs.Table.{IfHere, IsHereAnd, IsIdle}
use Rattle.end_table.specs.declared.entry.Entry.{Entry}
use Rattle.end_table.specs.declared.entry.Entry.TheVariants as entry
use Rattle.end_table.specs.declared.entry.HereView.{HereView}
use Rattle.end_table.specs.declared.entry.Holder.{Holder}
use Rattle.end_table.specs.declared.entry.Holder.TheVariants as holder
use Rattle.end_table.specs.declared.entry.Outward.{Outward}
use Rattle.end_table.specs.declared.entry.Outward.TheVariants as outward
use Rattle.kernel_sound.specs.Sound.{IsHeldWell}
use Rattle.kernel_step.specs.Actions.{enclosed_of}
use Rattle.kernel_step.specs.Rows.{ends_in}
use Rattle.kernel_world.specs.World.{World}
use Rattle.service_step.specs.Ends.{is_living}
use Rattle.service_step.specs.Lawful.{IsCarried, message_of}
use Rattle.service_step.specs.Lawful as lawful
use Rattle.service_step.specs.State.{State}
use Rattle.service_step.specs.declared.state.Message.{Message}
use Rattle.service_step.specs.declared.state.Place.{Place}
use Rattle.service_step.specs.declared.state.Place.TheVariants as place
use Rattle.trace_dropping.proofs.Among.{contains-among}
use Rattle.trace_dropping.proofs.Owned.{busy-owned}
use Rattle.theorem_meaning.proofs.Plain.{there-here, waiting-so}
use Rattle.theorem_meaning.specs.Fields.{At, Flying}
use Rattle.theorem_meaning.specs.Invariant.{Invariant}
use Rattle.theorem_meaning.specs.Packets.{IsBackOf, IsParcelOf, IsUnderWay, links_of, values_of}
use Rattle.theorem_meaning.specs.StandsFor.{IsEnclosed, IsInMessage, IsOutwardOf, IsWaitingWith, entry_at, home_of}
use Rattle.theorem_take_answer.proofs.Meets.{IsOwnedAt as HasOwner, owned-at, same-kernel}
use Rattle.theorem_take_silent.proofs.Places.{fields-here, here-kernel, here-living}
use Rattle.trace_law.specs.Law.{IsHeldAt, IsOwnedAt}

here-same : (y z : HereView) → entry.Here y ≡ entry.Here z → y ≡ z
here-same y z same = cc

some-message : (m o : Message) → Some m ≡ Some o → m ≡ o
some-message m o same = cc

module _ (g : Setting) (i : ℕ) (w : World) (s : State) (is : Invariant i w s) (homes : s.homes ≡ g.homes) (k : ℕ) where
  abbrev table : EndId → Entry
  table = (w.kernel k).table

  -- an end that has an owner in the service
  owner-held : (e : EndId) (v : HereView) → table e ≡ entry.Here v → HasOwner w s k e → (p : Pid) × (v.holder ≡ holder.Owner p) × (p.0 < length g.homes) × (slice_index g.homes p.0 ≡ k)
  owner-held e v here o =
      let same : v.holder ≡ holder.Owner o.p = ap (λ (z : HereView). z.holder) (here-same v o.view (sym here ∙ o.here)) ∙ o.holder in
      let below : o.p.0 < length s.homes = subst (IsHeldWell (length s.homes) v) same (subst (λ z. IfHere z (λ v. IsHeldWell (length s.homes) v v.holder)) here ((is.setting.sound k).held e)) in
      (o.p, same, subst (λ hs. o.p.0 < length hs) homes below, ap (λ hs. slice_index hs o.p.0) (sym homes) ∙ o.home)

  is-owned : (e : EndId) (v : HereView) → table e ≡ entry.Here v → HasOwner w s k e → IsOwnedAt g k v.holder
  is-owned e v here o = let z = owner-held e v here o in subst (IsOwnedAt g k) (sym z.1) (z.2, z.3)

  -- one that is enclosed in a message that waits
  enclosed : (e : EndId) (v : HereView) → table e ≡ entry.Here v → (f : EndId) (n : ℕ) → (s.ends e).place ≡ place.InMessage f n → IsEnclosed (links_of w) e f n → IsHeldAt g k table e v.holder
  enclosed e v here f n within m = subst (IsHeldAt g k table e) (sym holds) (subst (λ y. IsHereAnd y (λ z. IsOwnedAt g k z.holder × Contains (enclosed_of z.outward) e)) (sym there.1) (owned, carries there.0.outward refl there.2))
    where
      x : (z : HereView) × (entry_at (links_of w) m.at e ≡ entry.Here z) × (z.holder ≡ holder.EnclosedIn f)
      x = there-here (entry_at (links_of w) m.at e) (λ z. z.holder ≡ holder.EnclosedIn f) m.enclosed

      near : m.at ≡ k
      near = here-kernel (length s.made) (links_of w) s.ends is.setting.few is.links.named is.links.marked is.stands.links.once e m.at k x.0 v x.1 here

      holds : v.holder ≡ holder.EnclosedIn f
      holds = ap (λ (z : HereView). z.holder) (here-same v x.0 (sym here ∙ ap (λ j. (w.kernel j).table e) (sym near) ∙ x.1)) ∙ x.2

      there : (z : HereView) × (table f ≡ entry.Here z) × IsWaitingWith n z.outward
      there = there-here (table f) (λ z. IsWaitingWith n z.outward) (subst (λ j. IsHereAnd ((w.kernel j).table f) (λ z. IsWaitingWith n z.outward)) near m.waiting)

      busy : (y : Outward) → there.0.outward ≡ y → IsWaitingWith n y → IsIdle there.0 → ⊥
      busy (outward.Waiting a bytes xs) is_y waits idle = let differ : outward.Waiting a bytes xs ≡ outward.Idle = sym is_y ∙ idle.outward in cc
      busy outward.Idle is_y waits idle = waits
      busy (outward.Matched a) is_y waits idle = waits
      busy outward.Unreported is_y waits idle = waits

      o : HasOwner w s k f
      o = busy-owned is k f there.0 there.1 (busy there.0.outward refl there.2)

      owned : IsOwnedAt g k there.0.holder
      owned = is-owned f there.0 there.1 o

      carried : IsCarried s f n e
      carried = subst (lawful.IsHeldAt s e) within (is.service.kept.held.held e)

      carries : (y : Outward) → there.0.outward ≡ y → IsWaitingWith n y → Contains (enclosed_of there.0.outward) e
      carries (outward.Waiting a bytes xs) is_y waits = subst (λ z. Contains (enclosed_of z) e) (sym is_y) (subst (λ (z : Message). Contains z.carried e) message_is carried.carries)
        where
          agrees : IsOutwardOf (links_of w) f (s.ends f).sent (outward.Waiting a bytes xs) (s.ends f).outward
          agrees = subst (λ z. IsOutwardOf (links_of w) f (s.ends f).sent z (s.ends f).outward) (ap (λ (z : HereView). z.outward) (here-same o.view there.0 (sym o.here ∙ there.1)) ∙ is_y) o.agree.outward

          message_is : carried.message ≡ record { bytes = bytes; carried = xs }
          message_is = some-message carried.message (record { bytes = bytes; carried = xs }) (sym carried.there ∙ ap message_of (waiting-so (links_of w) f (s.ends f).sent a bytes xs (s.ends f).outward agrees).1)
      carries outward.Idle is_y waits = absurd waits
      carries (outward.Matched a) is_y waits = absurd waits
      carries outward.Unreported is_y waits = absurd waits

  pub held-here : (e : EndId) (v : HereView) → table e ≡ entry.Here v → IsHeldAt g k table e v.holder
  held-here e v here = by (s.ends e).place refl
    where
      lives : is_living (s.ends e).place ≡ true
      lives = here-living (length s.made) (links_of w) s.ends is.setting.few is.links.named is.links.marked is.stands.links.once e k v here

      flies : (P : PictureWhat → Type 0) → IsUnderWay (links_of w) (λ q. P q × Contains (ends_in (values_of q)) e) → ⊥
      flies P u =
          let a = contains-among (values_of u.packet.what) e u.is.1 in
          let differ : Flying ≡ At k = (fields-here (length s.made) (links_of w) s.ends is.setting.few is.links.named is.links.marked is.stands.links.once e k v Flying a.value here
          (record { from = u.from; to = u.to; packet = u.packet; there = u.there; is = a.there }, a.of)).0 in
          cc

      of-message : (f : EndId) (n : ℕ) → (s.ends e).place ≡ place.InMessage f n → IsInMessage (links_of w) e f n → IsHeldAt g k table e v.holder
      of-message f n within (inl m) = enclosed e v here f n within m
      of-message f n within (inr (inl m)) = absurd (flies (IsParcelOf f n) m)
      of-message f n within (inr (inr m)) = absurd (flies (IsBackOf f n) m)

      by : (x : Place) → (s.ends e).place ≡ x → IsHeldAt g k table e v.holder
      by (place.Owned p) owns =
          let z = owner-held e v here (same-kernel is (home_of s p) k e v (owned-at is e p owns) here) in
          subst (IsHeldAt g k table e) (sym z.1) (z.2, z.3)
      by (place.InMessage f n) within = of-message f n within ((is.stands.links.in_message e f n).0 within)
      by place.Destroyed gone = absurd (true≢false (sym lives ∙ ap (λ z. is_living z) gone))
      by place.Unmade gone = absurd (true≢false (sym lives ∙ ap (λ z. is_living z) gone))
