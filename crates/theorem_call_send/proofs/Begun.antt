-- Where a send begins and waits, the links stand for the state of the service again, and all clauses on links are true.
use Rattle.std.proofs.Common.{◌≡◌, ℕ, ◌+◌, ◌-◌, ◌^◌, ◌≤◌, Bool, true, false, List, length, refl, sym, ap, subst, ◌∙◌, arith, true≢false}
use Rattle.std.proofs.Math.Nat.{min-le_left}
use Rattle.charlotte_calls.specs.declared.names.EndId.{EndId}
use Rattle.charlotte_calls.specs.declared.names.Pid.{Pid}
use Rattle.charlotte_packets.specs.declared.picture.MovingPicture.{MovingPicture}
use Rattle.end_table.proofs.EndEq.{end_eq-same}
use Rattle.end_table.specs.Entries.{gains_one}
use Rattle.end_table.specs.Place.{end_eq}
use Rattle.end_table.specs.Table.{IsHereAnd, IsIdle}
use Rattle.end_table.specs.declared.entry.Entry.TheVariants as entry
use Rattle.end_table.specs.declared.entry.HereView.{HereView}
use Rattle.end_table.specs.declared.entry.Holder.TheVariants as holder
use Rattle.end_table.specs.declared.entry.Outward.TheVariants as kernel_outward
use Rattle.kernel_effects.specs.Calls.{sending_view}
use Rattle.kernel_sound.proofs.Needs.{IsHereAnd-map}
use Rattle.service_change.proofs.EndEq.{among, places-among, places-other, puts-at, puts-other}
use Rattle.service_step.specs.Ends.{is_made, is_taken, matched_message, puts as service_puts, starts_send}
use Rattle.service_step.specs.State.{State}
use Rattle.service_step.specs.declared.state.End.{End}
use Rattle.service_step.specs.declared.state.Message.{Message}
use Rattle.service_step.specs.declared.state.Outward.{Outward}
use Rattle.service_step.specs.declared.state.Outward.TheVariants as outward
use Rattle.service_step.specs.declared.state.Place.TheVariants as place
use Rattle.theorem_meaning.proofs.Ends.{eq-same}
use Rattle.theorem_meaning.proofs.Plain.{there-here}
use Rattle.theorem_meaning.specs.Fields.{Stand, At, HasFields, value_of}
use Rattle.theorem_meaning.specs.Invariant.{AreRight}
use Rattle.theorem_meaning.specs.Packets.{Links}
use Rattle.theorem_meaning.specs.StandsFor.{AreLinksOf, IsEnclosed, IsEndOf, IsOutwardOf, IsOwnedHere, IsWaitingWith, entry_at}
use Rattle.theorem_call_send.specs.Begun.{IsBeginning, begun}
use Rattle.theorem_call_send.specs.Regrouped.{IsRegrouping, is_among}
use Rattle.theorem_call_send.proofs.Held.{IsHeldAs, by_process, by_send, held-as, its-view}
use Rattle.theorem_call_send.proofs.Regrouped.{few-now, its-within, now-own, other-than, regrouped-right}
use Rattle.theorem_call_send.proofs.RegroupedLinks.{AreHeldAnew, held-same, regrouped-links, within-here}
use Rattle.theorem_call_send.proofs.SamePackets.{end-same}

-- the service and kernels look for ends in the same way
pub among-same : (f : EndId) (xs : List EndId) → among f xs ≡ is_among xs f
among-same f xs = refl

-- no send is started, at the kernel and in the service
pub unsent : (w : Links) (e : EndId) (n : ℕ) (o : Outward) → IsOutwardOf w e n kernel_outward.Idle o → o ≡ outward.Idle
unsent w e n outward.Idle is = refl
unsent w e n (outward.Waiting m) is = absurd is
unsent w e n (outward.Matched m) is = absurd is
unsent w e n outward.Taken is = absurd is
unsent w e n outward.Unreported is = absurd is

module _ {i : ℕ} {w u : Links} {s : State} {k : ℕ} {p : Pid} {v : HereView} {bytes : List ℕ} {xs : List EndId}
    (few : length s.made ≤ 8) (links : AreLinksOf w s) (right : AreRight i w s) (x : IsBeginning w u s k p v bytes xs) where
  abbrev e : EndId
  e = v.value.end

  abbrev n : ℕ
  n = gains_one v.value.sent

  abbrev starts : EndId → End
  starts = starts_send e n (record { bytes = bytes; carried = xs }) s.ends

  abbrev message : Message
  message = record { bytes = bytes; carried = xs }

  -- ---- the end before

  pub placed : (s.ends e).place ≡ place.Owned p
  placed = (links.owned e p).1 (subst (λ j. IsOwnedHere p (entry_at w j e)) (sym x.at) (subst (IsOwnedHere p) (sym x.here) x.owner))

  pub its-end : IsEndOf w e v (s.ends e)
  its-end = links.agree e p v placed (subst (λ j. entry_at w j e ≡ entry.Here v) (sym x.at) x.here)

  pub was-unsent : (s.ends e).outward ≡ outward.Idle
  was-unsent = unsent w e (s.ends e).sent (s.ends e).outward (subst (λ z. IsOutwardOf w e (s.ends e).sent z (s.ends e).outward) x.idle its-end.outward)

  -- ---- ends afterwards

  abbrev sending : End
  sending = record (s.ends e) { outward = outward.Waiting message; sent = n }

  half-other : (f : EndId) → end_eq e f ≡ false → service_puts e sending s.ends f ≡ s.ends f
  half-other f apart = puts-other e sending s.ends f (eq-same e f ∙ apart)

  pub ends-own : starts e ≡ record (s.ends e) { outward = outward.Waiting message; sent = n }
  unfolding starts_send
  ends-own = places-other (place.InMessage e n) xs (service_puts e sending s.ends) e (among-same e xs ∙ x.apart) ∙ puts-at e sending s.ends (ap is_made placed)

  other : (f : EndId) → is_among xs f ≡ true → end_eq e f ≡ false
  other f is = by (end_eq e f) refl
    where
      by : (b : Bool) → end_eq e f ≡ b → b ≡ false
      by true same = absurd (true≢false (sym is ∙ ap (is_among xs) (sym (end_eq-same e f same)) ∙ x.apart))
      by false apart = refl

  owned-within : (f : EndId) → is_among xs f ≡ true → (s.ends f).place ≡ place.Owned p
  owned-within f is =
      (links.owned f p).1 (subst (λ j. IsOwnedHere p (entry_at w j f)) (sym x.at) (IsHereAnd-map (entry_at w k f) (λ y. IsIdle y × (y.holder ≡ holder.Owner p)) (λ y. y.holder ≡ holder.Owner p) (λ y both. both.1) (x.free f is)))

  pub ends-within : (f : EndId) → is_among xs f ≡ true → starts f ≡ record (s.ends f) { place = place.InMessage e n }
  unfolding starts_send
  ends-within f is =
      let same : service_puts e sending s.ends f ≡ s.ends f = half-other f (other f is) in
      places-among (place.InMessage e n) xs (service_puts e sending s.ends) f refl (among-same f xs ∙ is) (ap (λ (z : End). is_made z.place) same ∙ ap is_made (owned-within f is))
      ∙ ap (λ (z : End). record z { place = place.InMessage e n }) same

  pub ends-away : (f : EndId) → end_eq e f ≡ false → is_among xs f ≡ false → starts f ≡ s.ends f
  unfolding starts_send
  ends-away f apart not = places-other (place.InMessage e n) xs (service_puts e sending s.ends) f (among-same f xs ∙ not) ∙ half-other f apart

  pub beginning : IsRegrouping w u s starts k v (sending_view v bytes xs) (holder.EnclosedIn e) (place.InMessage e n) xs
  beginning =
      record {
        here = x.here;
        like = record { value = refl; inward = refl };
        holder = refl;
        idle = λ f is. IsHereAnd-map (entry_at w k f) (λ y. IsIdle y × (y.holder ≡ holder.Owner p)) IsIdle (λ y both. both.0) (x.free f is);
        apart = x.apart;
        entries = x.entries;
        others = x.others;
        packets = x.packets;
        living = refl;
        own = ends-own ∙ sym (ap (λ (z : End). record (s.ends e) { outward = z.outward; sent = n }) ends-own);
        within = ends-within;
        away = ends-away;
        before = record { message = ap matched_message was-unsent; taken = ap is_taken was-unsent };
        after = record { message = ap (λ (z : End). matched_message z.outward) ends-own; taken = ap (λ (z : End). is_taken z.outward) ends-own };
      }

  sent-few : n ≤ i + 1
  sent-few =
      let gained : n ≤ v.value.sent + 1 = min-le_left (v.value.sent + 1) (2 ^ 32 - 1) in
      let old : v.value.sent ≤ i = (right.few e (At k) v.value (ap value_of x.here)).sent in
      omega (arith, gained, old)

  -- all clauses on links
  pub begun-right : AreRight (i + 1) u (begun s v bytes xs)
  begun-right = regrouped-right beginning few links right sent-few

  -- and no number but that of sends is above what it was
  pub begun-few : (f : EndId) (stand : Stand) (m : MovingPicture) → HasFields u f stand m → (m.hops ≤ i) × (m.asked ≤ i) × (m.sent ≤ i + 1)
  begun-few = few-now beginning few links right sent-few

  -- ---- who holds ends

  waits-no-more : (j : ℕ) (m : ℕ) → IsHereAnd (entry_at w j e) (λ y. IsWaitingWith m y.outward) → ⊥
  waits-no-more j m has = subst (IsWaitingWith m) x.idle (its-view w s few links right e k v j (λ y. IsWaitingWith m y.outward) x.here has).1

  -- no end is held by the send of the end before
  unheld : (j : ℕ) (f : EndId) → IsHereAnd (entry_at w j f) (λ y. y.holder ≡ holder.EnclosedIn e) → ⊥
  unheld j f has = by (held-as w s few links right f j y.0 y.1)
    where
      y : (z : HereView) × (entry_at w j f ≡ entry.Here z) × (z.holder ≡ holder.EnclosedIn e)
      y = there-here (entry_at w j f) (λ y. y.holder ≡ holder.EnclosedIn e) has

      by : IsHeldAs w s j f y.0 → ⊥
      by (by_process q at held home) = let no : holder.EnclosedIn e ≡ holder.Owner q = sym y.2 ∙ held in cc
      by (by_send g m at held waits) =
          let same : holder.EnclosedIn e ≡ holder.EnclosedIn g = sym y.2 ∙ held in
          let it : e ≡ g = cc in
          waits-no-more j m (subst (λ z. IsHereAnd (entry_at w j z) (λ y. IsWaitingWith m y.outward)) (sym it) waits)

  -- one that is enclosed is in the message that begins
  enclosed-now : (f : EndId) → is_among xs f ≡ true → IsEnclosed u f e n
  enclosed-now f is =
      let z = its-within beginning f (other-than beginning f is) is in
      record {
        at = k;
        enclosed = subst (λ a. IsHereAnd a (λ y. y.holder ≡ holder.EnclosedIn e)) (sym z.now) refl;
        waiting = subst (λ a. IsHereAnd a (λ y. IsWaitingWith n y.outward)) (sym (now-own beginning)) refl;
      }

  -- and in no other
  enclosed-alone : (f g : EndId) (m : ℕ) → is_among xs f ≡ true → IsEnclosed u f g m → (e ≡ g) × (n ≡ m)
  enclosed-alone f g m is y =
      let held = within-here beginning few links right y.at f is (λ h. h ≡ holder.EnclosedIn g) y.enclosed in
      let same : e ≡ g = own held.1 in
      (same, subst (λ a. IsHereAnd a (λ y. IsWaitingWith m y.outward)) (ap (λ j. entry_at u j g) held.0 ∙ ap (entry_at u k) (sym same) ∙ now-own beginning) y.waiting)
    where
      own : holder.EnclosedIn e ≡ holder.EnclosedIn g → e ≡ g
      own same = cc

  own-end : IsEndOf u e (sending_view v bytes xs) (starts e)
  own-end =
      let old : IsEndOf u e v (s.ends e) = end-same w u x.packets e v (s.ends e) its-end in
      subst (IsEndOf u e (sending_view v bytes xs)) (sym ends-own) (record { sent = refl; noticed = old.noticed; outward = (refl, refl); inward = old.inward })

  anew : AreHeldAnew beginning few links right
  anew =
      record {
        enclosed = λ f m not. (
          λ y. absurd (waits-no-more y.at m y.waiting),
          λ y. absurd (unheld y.at f ((held-same beginning y.at f not (λ h. h ≡ holder.EnclosedIn e)).1 y.enclosed)),
        );
        owned = λ f q is. (λ no. let differ : place.InMessage e n ≡ place.Owned q = no in absurd cc, λ no. let differ : holder.EnclosedIn e ≡ holder.Owner q = no.1 in absurd cc);
        message = λ f g m is. (
          λ at. let same : place.InMessage e n ≡ place.InMessage g m = at in
              let it : e ≡ g = cc in
              let number : n ≡ m = cc in
              subst (λ z. IsEnclosed u f z m) it (subst (IsEnclosed u f e) number (enclosed-now f is)),
          λ y. let own = enclosed-alone f g m is y in ap (λ z. place.InMessage z n) own.0 ∙ ap (place.InMessage g) own.1,
        );
        own = λ q owned. own-end;
        idle = λ f q z is no there. let differ : place.InMessage e n ≡ place.Owned q = no in absurd cc;
      }

  -- the links stand for the state of the service
  pub begun-links : AreLinksOf u (begun s v bytes xs)
  begun-links = regrouped-links beginning few links right anew
