-- A want that meets a send which waits keeps all that is true of the traces of ends.
use Rattle.std.proofs.Common.{◌≡◌, ◌⊎◌, inl, inr, ℕ, ◌^◌, ◌<◌, ◌≤◌, Bool, true, false, nat_lt, if◌then◌else◌, List, [], ◌∷◌, ◌++◌, length, Contains, refl, sym, ap, subst, ◌∙◌, arith, lt-ltb}
use Rattle.std.specs.List.{list_any}
use Rattle.charlotte_calls.specs.Names.{opposite}
use Rattle.charlotte_calls.specs.declared.calls.ServiceStep.TheVariants as step
use Rattle.charlotte_calls.specs.declared.names.EndId.{EndId}
use Rattle.charlotte_calls.specs.declared.names.Pid.{Pid}
use Rattle.charlotte_packets.specs.declared.picture.MovingPicture.{MovingPicture}
use Rattle.charlotte_packets.specs.declared.picture.Picture.{Picture}
use Rattle.charlotte_packets.specs.declared.picture.PictureWhat.{PictureWhat}
use Rattle.charlotte_packets.specs.declared.picture.PictureWhat.TheVariants as packet
use Rattle.end_table.proofs.EndEq.{end_eq-refl, end_eq-same}
use Rattle.end_table.specs.Entries.{is_news, learned}
use Rattle.end_table.specs.Place.{end_eq}
use Rattle.end_table.specs.Table.{IfHere, IsHere, IsHereAnd, IsIdle, IsOfEnd}
use Rattle.end_table.specs.declared.entry.Entry.{Entry}
use Rattle.end_table.specs.declared.entry.Entry.TheVariants as entry
use Rattle.end_table.specs.declared.entry.HereView.{HereView}
use Rattle.end_table.specs.declared.entry.Holder.TheVariants as holder
use Rattle.end_table.specs.declared.entry.Outward.TheVariants as outward
use Rattle.kernel_effects.specs.Actions.{learn_effect, left_of, match_effect, match_waiting_effect}
use Rattle.kernel_effects.specs.Effect.{Effect, nothing, puts, sent, stays, turns}
use Rattle.kernel_effects.specs.Rows.{row_effect, view_news, want_effect, wants_effect}
use Rattle.kernel_sound.specs.Sound.{AreHeldBy}
use Rattle.kernel_step.specs.Actions.{enclosed_of, values_leaving}
use Rattle.kernel_world.specs.World.{Takes, World, happens}
use Rattle.service_lawful.specs.Consistent.{is_open}
use Rattle.service_step.specs.Ends.{is_living}
use Rattle.service_step.specs.State.{State}
use Rattle.service_step.specs.declared.state.End.{End}
use Rattle.theorem_effects.proofs.Allowed.{takes-allowed}
use Rattle.theorem_effects.proofs.Lists.{first, later}
use Rattle.theorem_effects.specs.Change.{Change, Happens}
use Rattle.theorem_effects.specs.Events.{taking}
use Rattle.theorem_match.proofs.Values.{any-there, held-at}
use Rattle.theorem_meaning.proofs.Ends.{opposite-twice}
use Rattle.theorem_meaning.proofs.Plain.{there-here}
use Rattle.theorem_meaning.specs.Fields.{At, HasFields, IsAsking, IsUnserved, value_of}
use Rattle.theorem_meaning.specs.Invariant.{Invariant}
use Rattle.theorem_meaning.specs.Packets.{IsUnderWay, Links, links_of}
use Rattle.theorem_meaning.specs.StandsFor.{entry_at}
use Rattle.theorem_take_silent.proofs.Alike.{some-same}
use Rattle.theorem_take_silent.proofs.Places.{here-living}
use Rattle.trace_landing.specs.Calm.{AreAsOpen}
use Rattle.trace_landing.proofs.Marks.{learned-taught}
use Rattle.trace_landing.proofs.Said.{news-said}
use Rattle.trace_landing.proofs.Taken.{learned-staying}
use Rattle.trace_landing.proofs.Learned.{learned-hint}
use Rattle.trace_landing.proofs.Learns.{learned-like}
use Rattle.trace_matching.proofs.Matching.{departing-traced}
use Rattle.trace_matching.proofs.Sends.{here-only}
use Rattle.trace_meaning.specs.Traces.{AreTraced, IsMarkRight, IsTraceRight}
use Rattle.trace_landing.specs.Moving.{IsStaying}

module _ (i : ℕ) (w : World) (s : State) (is : Invariant i w s) (room : i < 2 ^ 31) (k from stamp : ℕ) (to : EndId) (r at hops : ℕ) (others : List Picture)
    (there : w.packets from k ≡ record { stamp = stamp; what = packet.Want to r at hops } ∷ others) (v : HereView) (here : (w.kernel k).table to ≡ entry.Here v) (alive : v.value.dead ≡ false)
    (low : v.value.served < r) (n : ℕ) (bytes : List ℕ) (xs : List EndId) (waits : v.outward ≡ outward.Waiting n bytes xs) (now : EndId → End) (as_open : AreAsOpen s.ends now) (traced : AreTraced (links_of w) s.ends) where
  abbrev l : Links
  l = links_of w

  abbrev q : Picture
  q = record { stamp = stamp; what = packet.Want to r at hops }

  abbrev any : Pid
  any = record { 0 = 0 }

  abbrev e : EndId
  e = v.value.end

  abbrev table : EndId → Entry
  table = (w.kernel k).table

  abbrev news : List (ℕ × PictureWhat)
  news = view_news k at hops v v.inward

  abbrev learns : MovingPicture
  learns = learned at hops v.value

  -- ---- what the taking does

  abbrev does_at : MovingPicture → Effect
  does_at m =
      record (sent ((m.hint.0, packet.Parcel (opposite e) n r k v.value.hops bytes (values_leaving k table xs)) ∷ news)) {
        entry = puts e (entry.Here (record v { value = record m { served = r; want = 0 }; outward = outward.Matched n })) (turns xs (left_of m.hint.0) stays);
        steps = step.Match e n ∷ [];
      }

  does : row_effect k (w.kernel k).made from table q.what ≡ does_at learns
  does =
      ap (want_effect k table to r at hops) here
      ∙ ap (λ b. if b then nothing else if nat_lt v.value.served r then wants_effect k table r at hops v else learn_effect k at hops v) alive
      ∙ ap (λ b. if b then wants_effect k table r at hops v else learn_effect k at hops v) (lt-ltb v.value.served r low)
      ∙ ap (λ o. let asked = match_waiting_effect k table (record v { value = record learns { want = r } }) o in record asked { packets = asked.packets ++ news }) waits
      ∙ by (is_news v.value hops)
    where
      by : (b : Bool)
          → (let x = record v { value = record (if b then record v.value { hint = (at, hops) } else v.value) { want = r } } in let asked = match_effect k table x n bytes xs in record asked { packets = asked.packets ++ news })
          ≡ does_at (if b then record v.value { hint = (at, hops) } else v.value)
      by true = refl
      by false = refl

  abbrev c : Change
  c = taking w k from q (does_at learns) any [] []

  happened : Happens w (Takes k from) c
  happened = takes-allowed is k from q others there (does_at learns) any [] [] does tt tt refl refl

  abbrev u : Links
  u = links_of (happens w (Takes k from))

  abbrev x : HereView
  x = record v { value = record learns { served = r; want = 0 }; outward = outward.Matched n }

  -- ---- the end

  end : v.value.end ≡ to
  end = subst (IsOfEnd to) here ((is.setting.sound k).own to)

  own-here : table e ≡ entry.Here v
  own-here = ap table end ∙ here

  lives : is_living (s.ends e).place ≡ true
  lives = here-living (length s.made) l s.ends is.setting.few is.links.named is.links.marked is.stands.links.once e k v own-here

  asking : IsUnderWay l (IsAsking e r at hops)
  asking = record { from = from; to = k; packet = q; there = subst (λ qs. Contains qs q) (sym there) (first q others); is = (sym end, refl, refl, refl) }

  staying : IsStaying c k e v.value x.value
  staying =
      learned-staying c k at hops v v.inward x.value (ap (λ (z : MovingPicture). record z { served = r; want = 0 }) (learned-taught at hops v.value)) refl (inr refl) (omega (arith, low))
      (record { from = from; packet = q; taken = refl; is = (sym end, refl, refl) })
      (λ y has. later (learns.hint.0, packet.Parcel (opposite e) n r k v.value.hops bytes (values_leaving k table xs)) news y has)

  now-here : entry_at u k e ≡ entry.Here x
  now-here = happened.becomes.links.entry e ∙ ap (λ a. if a then entry.Here x else turns xs (left_of learns.hint.0) stays e (table e)) (end_eq-refl e)

  -- the receive is asked for from the mark, if its end left one: what is heard of that is no newer
  site : (d : ℕ) (m : MovingPicture) → entry_at l d (opposite e) ≡ entry.Destroyed m → is_open (s.ends e) ≡ true → learns.hint.0 ≡ d
  site d m mark open_is = by (learned-hint at hops v.value)
    where
      right : IsMarkRight l s.ends (opposite e) d m
      right = subst (IsTraceRight l s.ends (opposite e) d) mark ((traced (opposite e)).entries d)

      fields : HasFields l (opposite (opposite e)) (At k) v.value
      fields = subst (λ z. HasFields l z (At k) v.value) (sym (opposite-twice e)) (ap value_of own-here)

      asked : (at ≡ d) × (hops ≡ m.hops)
      asked =
          right.asked (At k) v.value r at hops (subst (λ z. is_open (s.ends z) ≡ true) (sym (opposite-twice e)) open_is) fields
          (subst (λ z. IsUnserved l z v.value r at hops) (sym (opposite-twice e)) (inr (low, asking)))

      by : ((is_news v.value hops ≡ true) × (learns.hint ≡ (at, hops)) × (v.value.hint.1 < hops)) ⊎ ((is_news v.value hops ≡ false) × (learns.hint ≡ v.value.hint) × (hops ≤ v.value.hint.1)) → learns.hint.0 ≡ d
      by (inl new) = ap (λ (z : ℕ × ℕ). z.0) new.1 ∙ asked.0
      by (inr old) =
          let honest = is.links.honest (opposite e) (At d) m v.value.hint.0 v.value.hint.1 (ap value_of mark) (inl (record { stand = At k; fields = v.value; are = fields; hint = refl })) in
          let most : v.value.hint.1 ≤ m.hops = honest.0 in
          let least : hops ≤ v.value.hint.1 = old.2 in
          let same : hops ≡ m.hops = asked.1 in
          ap (λ (z : ℕ × ℕ). z.0) old.1 ∙ honest.1 (omega (arith, most, least, same))

  held : AreHeldBy e table xs
  held = subst (λ o. AreHeldBy e table (enclosed_of o)) waits (subst (λ z. IfHere z (λ y. AreHeldBy e table (enclosed_of y.outward))) own-here ((is.setting.sound k).enclosed e))

  -- the end is none that its message carries, since its send waits
  apart : list_any (end_eq e) xs ≡ false
  apart = by (list_any (end_eq e) xs) refl
    where
      by : (b : Bool) → list_any (end_eq e) xs ≡ b → b ≡ false
      by false is_so = refl
      by true among =
          let o = there-here (table e) (λ y. IsIdle y × (y.holder ≡ holder.EnclosedIn e)) (held-at e table xs e held (any-there e xs among)) in
          absurd (let differ : outward.Waiting n bytes xs ≡ outward.Idle = sym waits ∙ ap (λ (y : HereView). y.outward) (here-same v o.0 (sym own-here ∙ o.1)) ∙ o.2.0.outward in cc)
        where
          here-same : (y z : HereView) → entry.Here y ≡ entry.Here z → y ≡ z
          here-same y z same = cc

  pub want-matched-traced : AreTraced (links_of (happens w (Takes k from))) now
  want-matched-traced =
      departing-traced i w s is room k v x own-here n r learns.hint.0 bytes xs (λ y has. here-only (table y) (λ z. IsIdle z × (z.holder ≡ holder.EnclosedIn e)) (held-at e table xs y held has)) apart news c u happened.becomes.links staying tt
      (news-said u s.ends k at hops v v.inward (subst (λ y. IsHereAnd y (λ o. o.value.hops ≡ v.value.hops)) (sym now-here) (ap (λ (z : MovingPicture). z.hops) (learned-like at hops v.value))) lives) site now as_open traced
