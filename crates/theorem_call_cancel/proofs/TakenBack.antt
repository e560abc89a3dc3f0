-- Where a send is taken back, the links stand for the state of the service again, and all clauses on links are true.
use Rattle.std.proofs.Common.{◌≡◌, ◌≢◌, ◌⊎◌, inl, inr, ℕ, ◌+◌, ◌≤◌, Bool, true, false, List, length, Contains, Some, refl, sym, ap, subst, ◌∙◌, arith, true≢false}
use Rattle.charlotte_calls.specs.declared.names.EndId.{EndId}
use Rattle.charlotte_calls.specs.declared.names.Pid.{Pid}
use Rattle.end_table.proofs.EndEq.{end_eq-same}
use Rattle.end_table.specs.Place.{end_eq}
use Rattle.end_table.specs.Table.{IsHereAnd, IsIdle}
use Rattle.end_table.specs.declared.entry.Entry.TheVariants as entry
use Rattle.end_table.specs.declared.entry.HereView.{HereView}
use Rattle.end_table.specs.declared.entry.Holder.TheVariants as holder
use Rattle.end_table.specs.declared.entry.Inward.{Inward as KernelInward}
use Rattle.end_table.specs.declared.entry.Inward.TheVariants as kernel_inward
use Rattle.end_table.specs.declared.entry.Outward.{Outward as KernelOutward}
use Rattle.end_table.specs.declared.entry.Outward.TheVariants as kernel_outward
use Rattle.kernel_sound.proofs.Needs.{IsHereAnd-map}
use Rattle.service_change.proofs.Change.{idle-parts}
use Rattle.service_change.proofs.EndEq.{Contains-among, among, places-among, places-other, puts-at, puts-other}
use Rattle.service_lawful.specs.Consistent.{AreKept}
use Rattle.service_step.specs.Ends.{carried_by, is_living, is_made, is_taken, matched_message, turns_outward, waiting_message, withdraws_send}
use Rattle.service_step.specs.Lawful.{IsCarried, IsHeldAt, message_of}
use Rattle.service_step.specs.State.{State}
use Rattle.service_step.specs.declared.state.End.{End}
use Rattle.service_step.specs.declared.state.Inward.{Inward}
use Rattle.service_step.specs.declared.state.Inward.TheVariants as inward
use Rattle.service_step.specs.declared.state.Message.{Message}
use Rattle.service_step.specs.declared.state.Outward.{Outward}
use Rattle.service_step.specs.declared.state.Outward.TheVariants as outward
use Rattle.service_step.specs.declared.state.Place.TheVariants as place
use Rattle.theorem_take_answer.proofs.Alike.{some-same}
use Rattle.theorem_meaning.proofs.Ends.{eq-same}
use Rattle.theorem_meaning.specs.Fields.{At, value_of}
use Rattle.theorem_meaning.specs.Invariant.{AreRight}
use Rattle.theorem_meaning.specs.Packets.{Links}
use Rattle.theorem_meaning.specs.StandsFor.{AreLinksOf, IsEnclosed, IsEndOf, IsInwardOf, IsOutwardOf, IsOwnedHere, IsWaitingWith, entry_at, home_of}
use Rattle.theorem_call_send.specs.Regrouped.{IsRegrouping, is_among}
use Rattle.theorem_call_send.proofs.Begun.{among-same}
use Rattle.theorem_call_send.proofs.Held.{IsHeldAs, by_process, by_send, held-as, its-view, lives}
use Rattle.theorem_call_send.proofs.Regrouped.{IsWithin, at-kernel, its-within, now-own, other-than, regrouped-right}
use Rattle.theorem_call_send.proofs.RegroupedLinks.{AreHeldAnew, regrouped-links, within-here}
use Rattle.theorem_call_send.proofs.SamePackets.{end-same}
use Rattle.theorem_meaning.proofs.Plain.{there-here, view-same, waiting-so}
use Rattle.theorem_call_cancel.specs.TakenBack.{IsTakingBack, taken_back}

module _ {i : ℕ} {w u : Links} {s : State} {k : ℕ} {p : Pid} {v : HereView} {n : ℕ} {bytes : List ℕ} {xs : List EndId}
    (few : length s.made ≤ 8) (links : AreLinksOf w s) (right : AreRight i w s) (kept : AreKept s) (x : IsTakingBack w u s k p v n bytes xs) where
  abbrev e : EndId
  e = v.value.end

  abbrev rests : HereView
  rests = record v { outward = kernel_outward.Idle }

  abbrev withdraws : EndId → End
  withdraws = withdraws_send p e s.ends

  -- ---- before

  pub placed : (s.ends e).place ≡ place.Owned p
  placed = (links.owned e p).1 (subst (λ j. IsOwnedHere p (entry_at w j e)) (sym x.at) (subst (IsOwnedHere p) (sym x.here) x.owner))

  pub its-end : IsEndOf w e v (s.ends e)
  its-end = links.agree e p v placed (subst (λ j. entry_at w j e ≡ entry.Here v) (sym x.at) x.here)

  pub was-waiting : (s.ends e).outward ≡ outward.Waiting (record { bytes = bytes; carried = xs })
  was-waiting = (waiting-so w e (s.ends e).sent n bytes xs (s.ends e).outward (subst (λ z. IsOutwardOf w e (s.ends e).sent z (s.ends e).outward) x.waits its-end.outward)).1

  -- the end is none of those that it encloses
  apart : is_among xs e ≡ false
  apart = by (is_among xs e) refl
    where
      differ : holder.Owner p ≡ holder.EnclosedIn e → ⊥
      differ is = cc

      by : (b : Bool) → is_among xs e ≡ b → b ≡ false
      by true is = absurd (differ (sym x.owner ∙ (its-view w s few links right e k v k (λ y. IsIdle y × (y.holder ≡ holder.EnclosedIn e)) x.here (x.held e is)).1.1))
      by false not = refl

  other : (f : EndId) → is_among xs f ≡ true → end_eq e f ≡ false
  other f is = by (end_eq e f) refl
    where
      by : (b : Bool) → end_eq e f ≡ b → b ≡ false
      by true same = absurd (true≢false (sym is ∙ ap (is_among xs) (sym (end_eq-same e f same)) ∙ apart))
      by false differs = refl

  -- an end that it encloses is in its message
  pub record IsInside (f : EndId) : Type 0 where
    pub view : HereView
    pub was : entry_at w k f ≡ entry.Here view
    pub idle : IsIdle view
    pub number : ℕ
    pub place : (s.ends f).place ≡ place.InMessage e number

  inside : (f : EndId) → is_among xs f ≡ true → IsInside f
  inside f is = by (held-as w s few links right f k z.0 z.1)
    where
      z : (y : HereView) × (entry_at w k f ≡ entry.Here y) × (IsIdle y × (y.holder ≡ holder.EnclosedIn e))
      z = there-here (entry_at w k f) (λ y. IsIdle y × (y.holder ≡ holder.EnclosedIn e)) (x.held f is)

      by : IsHeldAs w s k f z.0 → IsInside f
      by (by_process q at held home) = let no : holder.EnclosedIn e ≡ holder.Owner q = sym z.2.1 ∙ held in absurd cc
      by (by_send g m at held waits) =
          let same : holder.EnclosedIn e ≡ holder.EnclosedIn g = sym z.2.1 ∙ held in
          let it : e ≡ g = cc in
          record { view = z.0; was = z.1; idle = z.2.0; number = m; place = at ∙ ap (λ a. place.InMessage a m) (sym it) }

  -- ---- ends afterwards

  carries : carried_by (waiting_message (s.ends e).outward) ≡ xs
  carries = ap (λ o. carried_by (waiting_message o)) was-waiting

  half-other : (f : EndId) → end_eq e f ≡ false → turns_outward outward.Idle e s.ends f ≡ s.ends f
  unfolding turns_outward
  half-other f differs = puts-other e (record (s.ends e) { outward = outward.Idle }) s.ends f (eq-same e f ∙ differs)

  pub ends-own : withdraws e ≡ record (s.ends e) { outward = outward.Idle }
  unfolding withdraws_send turns_outward
  ends-own =
      places-other (place.Owned p) (carried_by (waiting_message (s.ends e).outward)) (turns_outward outward.Idle e s.ends) e (ap (λ l. among e l) carries ∙ among-same e xs ∙ apart)
      ∙ puts-at e (record (s.ends e) { outward = outward.Idle }) s.ends (ap is_made placed)

  pub ends-within : (f : EndId) → is_among xs f ≡ true → withdraws f ≡ record (s.ends f) { place = place.Owned p }
  unfolding withdraws_send
  ends-within f is =
      let same : turns_outward outward.Idle e s.ends f ≡ s.ends f = half-other f (other f is) in
      places-among (place.Owned p) (carried_by (waiting_message (s.ends e).outward)) (turns_outward outward.Idle e s.ends) f refl (ap (λ l. among f l) carries ∙ among-same f xs ∙ is)
      (ap (λ (z : End). is_made z.place) same ∙ ap is_made (inside f is).place)
      ∙ ap (λ (z : End). record z { place = place.Owned p }) same

  pub ends-away : (f : EndId) → end_eq e f ≡ false → is_among xs f ≡ false → withdraws f ≡ s.ends f
  unfolding withdraws_send
  ends-away f differs not =
      places-other (place.Owned p) (carried_by (waiting_message (s.ends e).outward)) (turns_outward outward.Idle e s.ends) f (ap (λ l. among f l) carries ∙ among-same f xs ∙ not) ∙ half-other f differs

  pub taking : IsRegrouping w u s withdraws k v rests v.holder (place.Owned p) xs
  taking =
      record {
        here = x.here;
        like = record { value = refl; inward = refl };
        holder = refl;
        idle = λ f is. IsHereAnd-map (entry_at w k f) (λ y. IsIdle y × (y.holder ≡ holder.EnclosedIn e)) IsIdle (λ y both. both.0) (x.held f is);
        apart = apart;
        entries = x.entries;
        others = x.others;
        packets = x.packets;
        living = refl;
        own = ends-own ∙ ap (λ m. record (s.ends e) { outward = outward.Idle; sent = m }) its-end.sent ∙ sym (ap (λ (z : End). record (s.ends e) { outward = z.outward; sent = v.value.sent }) ends-own);
        within = ends-within;
        away = ends-away;
        before = record { message = ap matched_message was-waiting; taken = ap is_taken was-waiting };
        after = record { message = ap (λ (z : End). matched_message z.outward) ends-own; taken = ap (λ (z : End). is_taken z.outward) ends-own };
      }

  -- all clauses on links
  pub taken-right : AreRight (i + 1) u (taken_back s p e)
  taken-right = regrouped-right taking few links right (let old : v.value.sent ≤ i = (right.few e (At k) v.value (ap value_of x.here)).sent in omega (arith, old))

  -- ---- who holds ends

  -- its message encloses no other ends
  alone : (f : EndId) (m : ℕ) → is_among xs f ≡ false → IsEnclosed w f e m → ⊥
  alone f m not y =
      let in_it : (s.ends f).place ≡ place.InMessage e m = (links.in_message f e m).1 (inl y) in
      let c : IsCarried s e m f = subst (IsHeldAt s f) in_it (kept.held.held f) in
      let same : Some (record { bytes = bytes; carried = xs }) ≡ Some c.message = sym (ap message_of was-waiting) ∙ c.there in
      let its : record { bytes = bytes; carried = xs } ≡ c.message = some-same (record { bytes = bytes; carried = xs }) c.message same in
      true≢false (sym (sym (among-same f xs) ∙ Contains-among f xs (subst (λ (z : Message). Contains z.carried f) (sym its) c.carries)) ∙ not)

  -- and waits no more
  waits-no-more : (j m : ℕ) → IsHereAnd (entry_at u j e) (λ y. IsWaitingWith m y.outward) → ⊥
  waits-no-more j m has = by (at-kernel taking j)
    where
      by : (j ≡ k) ⊎ ((j ≢ k) × ((f : EndId) → entry_at u j f ≡ entry_at w j f)) → ⊥
      by (inl here) = subst (λ a. IsHereAnd a (λ y. IsWaitingWith m y.outward)) (ap (λ z. entry_at u z e) here ∙ now-own taking) has
      by (inr far) = far.0 (its-view w s few links right e k v j (λ y. IsWaitingWith m y.outward) x.here (subst (λ a. IsHereAnd a (λ y. IsWaitingWith m y.outward)) (far.1 e) has)).0

  own-end : IsEndOf u e rests (withdraws e)
  own-end =
      let old : IsEndOf u e v (s.ends e) = end-same w u x.packets e v (s.ends e) its-end in
      subst (IsEndOf u e rests) (sym ends-own) (record { sent = old.sent; noticed = old.noticed; outward = tt; inward = old.inward })

  -- an end that was enclosed is idle
  idle-end : (f : EndId) (z : HereView) → is_among xs f ≡ true → entry_at u k f ≡ entry.Here z → IsEndOf u f z (withdraws f)
  idle-end f z is there =
      subst (IsEndOf u f z) (sym (ends-within f is))
      (subst (λ a. IsEndOf u f a (record (s.ends f) { place = place.Owned p })) (view-same (record o.view { holder = v.holder }) z (sym o.now ∙ there))
      (record {
        sent = sym ((right.counted f).sent (At k) o.view.value living (ap value_of o.was));
        noticed = sym ((right.counted f).dead (At k) o.view.value living (ap value_of o.was));
        outward = outwards o.view.outward (s.ends f).outward o.idle.outward parts.0;
        inward = inwards o.view.inward (s.ends f).inward o.idle.inward parts.1;
      }))
    where
      o : IsWithin taking f
      o = its-within taking f (other-than taking f is) is

      living : is_living (s.ends f).place ≡ true
      living = lives w s few links right f k o.view o.was

      parts : ((s.ends f).outward ≡ outward.Idle) × ((s.ends f).inward ≡ inward.Idle)
      parts = idle-parts (s.ends f) (kept.resting f e (inside f is).number (inside f is).place)

      outwards : (a : KernelOutward) (b : Outward) → a ≡ kernel_outward.Idle → b ≡ outward.Idle → IsOutwardOf u f (s.ends f).sent a b
      outwards a b at_kernel in_service = subst (λ y. IsOutwardOf u f (s.ends f).sent y b) (sym at_kernel) (subst (λ y. IsOutwardOf u f (s.ends f).sent kernel_outward.Idle y) (sym in_service) tt)

      inwards : (a : KernelInward) (b : Inward) → a ≡ kernel_inward.Idle → b ≡ inward.Idle → IsInwardOf u f a b
      inwards a b at_kernel in_service = subst (λ y. IsInwardOf u f y b) (sym at_kernel) (subst (λ y. IsInwardOf u f kernel_inward.Idle y) (sym in_service) tt)

  anew : AreHeldAnew taking few links right
  anew =
      record {
        enclosed = λ f m not. (λ y. absurd (alone f m not y), λ y. absurd (waits-no-more y.at m y.waiting));
        owned = λ f q is. (
          λ same. let both : place.Owned p ≡ place.Owned q = same in let it : p ≡ q = cc in (ap (home_of s) (sym it) ∙ x.at, x.owner ∙ ap holder.Owner it),
          λ held. let both : holder.Owner p ≡ holder.Owner q = sym x.owner ∙ held.1 in let it : p ≡ q = cc in ap place.Owned it,
        );
        message = λ f g m is. (
          λ no. let differ : place.Owned p ≡ place.InMessage g m = no in absurd cc,
          λ y. let differ : holder.Owner p ≡ holder.EnclosedIn g = sym x.owner ∙ (within-here taking few links right y.at f is (λ h. h ≡ holder.EnclosedIn g) y.enclosed).1 in absurd cc,
        );
        own = λ q owned. own-end;
        idle = λ f q z is owned there. idle-end f z is there;
      }

  -- the links stand for the state of the service
  pub taken-links : AreLinksOf u (taken_back s p e)
  taken-links = regrouped-links taking few links right anew
