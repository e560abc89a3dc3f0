-- Where the send of an end changes, and with it who holds the ends that it encloses, all clauses on links are true again.
use Rattle.std.proofs.Common.{◌≡◌, ◌≢◌, ◌⊎◌, inl, inr, ℕ, ◌+◌, ◌≤◌, Bool, true, false, nat_eq, if◌then◌else◌, List, length, Contains, None, Some, refl, sym, ap, subst, ◌∙◌, arith, true≢false}
use Rattle.std.proofs.lemmas.Bool.Decides.{eqb_tells}
use Rattle.charlotte_calls.specs.declared.names.EndId.{EndId}
use Rattle.charlotte_calls.specs.declared.names.Pid.{Pid}
use Rattle.charlotte_packets.specs.declared.picture.MovingPicture.{MovingPicture}
use Rattle.end_table.proofs.EndEq.{end_eq-refl, end_eq-same}
use Rattle.end_table.specs.Place.{end_eq}
use Rattle.end_table.specs.Table.{IsIdle}
use Rattle.end_table.specs.declared.entry.Entry.TheVariants as entry
use Rattle.end_table.specs.declared.entry.HereView.{HereView}
use Rattle.end_table.specs.declared.entry.Holder.{Holder}
use Rattle.end_table.specs.declared.entry.Holder.TheVariants as holder
use Rattle.end_table.specs.declared.entry.Inward.TheVariants as kernel_inward
use Rattle.kernel_effects.specs.Actions.{held_entry}
use Rattle.service_change.proofs.Change.{living-made}
use Rattle.service_step.specs.Ends.{is_living, is_made, is_taken, matched_message}
use Rattle.service_step.specs.State.{State}
use Rattle.service_step.specs.declared.state.End.{End}
use Rattle.service_step.specs.declared.state.Message.{Message}
use Rattle.service_step.specs.declared.state.Outward.{Outward}
use Rattle.service_step.specs.declared.state.Outward.TheVariants as outward
use Rattle.service_step.specs.declared.state.Place.{Place}
use Rattle.theorem_call_begin.proofs.Alike.{some-same}
use Rattle.theorem_meaning.proofs.Plain.{there-here, view-same}
use Rattle.theorem_meaning.specs.Fields.{Stand, At, Flying, HasFields, value_of}
use Rattle.theorem_meaning.specs.Invariant.{AreRight, IsFew}
use Rattle.theorem_meaning.specs.Packets.{Links, values_of}
use Rattle.theorem_meaning.specs.StandsFor.{AreLinksOf, entry_at}
use Rattle.theorem_call_send.specs.Kept.{AreLinksKept, IsEndKept, IsEntryKept}
use Rattle.theorem_call_send.specs.Regrouped.{IsRegrouping, is_among}
use Rattle.theorem_call_send.proofs.Held.{lives, own-fields}
use Rattle.theorem_call_send.proofs.Kept.{entry-kept, fields-was}
use Rattle.theorem_call_send.proofs.KeptClauses.{kept-right}
use Rattle.theorem_call_send.proofs.SamePackets.{packet-same}

-- an end is that one, or one of these, or another
pub data Which (e : EndId) (xs : List EndId) (f : EndId) : Type 0 where
  its : e ≡ f → Which e xs f
  within : end_eq e f ≡ false → is_among xs f ≡ true → Which e xs f
  away : end_eq e f ≡ false → is_among xs f ≡ false → Which e xs f

pub which : (e : EndId) (xs : List EndId) (f : EndId) → Which e xs f
which e xs f = by (end_eq e f) (is_among xs f) refl refl
  where
    by : (a b : Bool) → end_eq e f ≡ a → is_among xs f ≡ b → Which e xs f
    by true b same rest = its (end_eq-same e f same)
    by false true apart is = within apart is
    by false false apart not = away apart not

none-matched : (o : Outward) (m : Message) → matched_message o ≡ None → o ≡ outward.Matched m → ⊥
none-matched o m none is = let some : Some m ≡ None = sym (ap matched_message is) ∙ none in cc

module _ {w u : Links} {s : State} {t : EndId → End} {k : ℕ} {v y : HereView} {h : Holder} {at : Place} {xs : List EndId} (x : IsRegrouping w u s t k v y h at xs) where
  abbrev e : EndId
  e = v.value.end

  -- ---- entries

  pub now-own : entry_at u k e ≡ entry.Here y
  now-own = x.entries e ∙ ap (λ b. if b then entry.Here y else (if is_among xs e then held_entry h (entry_at w k e) else entry_at w k e)) (end_eq-refl e)

  -- none of the ends is the one that encloses them
  pub other-than : (f : EndId) → is_among xs f ≡ true → end_eq e f ≡ false
  other-than f is = by (end_eq e f) refl
    where
      by : (b : Bool) → end_eq e f ≡ b → b ≡ false
      by true same = absurd (true≢false (sym is ∙ ap (is_among xs) (sym (end_eq-same e f same)) ∙ x.apart))
      by false apart = refl

  pub now-within : (f : EndId) → end_eq e f ≡ false → is_among xs f ≡ true → entry_at u k f ≡ held_entry h (entry_at w k f)
  now-within f apart is =
      x.entries f ∙ ap (λ b. if b then entry.Here y else (if is_among xs f then held_entry h (entry_at w k f) else entry_at w k f)) apart
      ∙ ap (λ b. if b then held_entry h (entry_at w k f) else entry_at w k f) is

  -- the view of one of the ends before
  pub record IsWithin (f : EndId) : Type 0 where
    pub view : HereView
    pub was : entry_at w k f ≡ entry.Here view
    pub idle : IsIdle view
    pub now : entry_at u k f ≡ entry.Here (record view { holder = h })

  pub its-within : (f : EndId) → end_eq e f ≡ false → is_among xs f ≡ true → IsWithin f
  its-within f apart is =
      let z = there-here (entry_at w k f) IsIdle (x.idle f is) in record { view = z.0; was = z.1; idle = z.2; now = now-within f apart is ∙ ap (held_entry h) z.1 }

  now-away : (f : EndId) → end_eq e f ≡ false → is_among xs f ≡ false → entry_at u k f ≡ entry_at w k f
  now-away f apart not =
      x.entries f ∙ ap (λ b. if b then entry.Here y else (if is_among xs f then held_entry h (entry_at w k f) else entry_at w k f)) apart
      ∙ ap (λ b. if b then held_entry h (entry_at w k f) else entry_at w k f) not

  -- at its kernel, or at another where nothing changes
  pub at-kernel : (j : ℕ) → (j ≡ k) ⊎ ((j ≢ k) × ((f : EndId) → entry_at u j f ≡ entry_at w j f))
  at-kernel j = by (eqb_tells j k)
    where
      by : ((nat_eq j k ≡ true) × (j ≡ k)) ⊎ ((nat_eq j k ≡ false) × (j ≢ k)) → (j ≡ k) ⊎ ((j ≢ k) × ((f : EndId) → entry_at u j f ≡ entry_at w j f))
      by (inl here) = inl here.1
      by (inr far) = inr (far.1, λ f. x.others j f far.0)

  pub away-entry : (j : ℕ) (f : EndId) → end_eq e f ≡ false → is_among xs f ≡ false → entry_at u j f ≡ entry_at w j f
  away-entry j f apart not = by (at-kernel j)
    where
      by : (j ≡ k) ⊎ ((j ≢ k) × ((f : EndId) → entry_at u j f ≡ entry_at w j f)) → entry_at u j f ≡ entry_at w j f
      by (inl here) = subst (λ z. entry_at u z f ≡ entry_at w z f) (sym here) (now-away f apart not)
      by (inr there) = there.1 f

  at-k : (f : EndId) → IsEntryKept (entry_at w k f) (entry_at u k f)
  at-k f = by (which e xs f)
    where
      by : Which e xs f → IsEntryKept (entry_at w k f) (entry_at u k f)
      by (its same) = subst (λ z. IsEntryKept (entry_at w k z) (entry_at u k z)) same (subst (λ z. IsEntryKept z (entry_at u k e)) (sym x.here) (subst (IsEntryKept (entry.Here v)) (sym now-own) x.like))
      by (within apart is) =
          let z = its-within f apart is in
          subst (λ a. IsEntryKept a (entry_at u k f)) (sym z.was) (subst (IsEntryKept (entry.Here z.view)) (sym z.now) (record { value = refl; inward = refl }))
      by (away apart not) = subst (IsEntryKept (entry_at w k f)) (sym (now-away f apart not)) (entry-kept (entry_at w k f))

  entries-kept : (j : ℕ) (f : EndId) → IsEntryKept (entry_at w j f) (entry_at u j f)
  entries-kept j f = by (at-kernel j)
    where
      by : (j ≡ k) ⊎ ((j ≢ k) × ((f : EndId) → entry_at u j f ≡ entry_at w j f)) → IsEntryKept (entry_at w j f) (entry_at u j f)
      by (inl here) = subst (λ z. IsEntryKept (entry_at w z f) (entry_at u z f)) (sym here) (at-k f)
      by (inr there) = subst (IsEntryKept (entry_at w j f)) (sym (there.1 f)) (entry-kept (entry_at w j f))

  module _ {i : ℕ} (few : length s.made ≤ 8) (links : AreLinksOf w s) (right : AreRight i w s) where
    -- ---- ends of the service

    pub living-within : (f : EndId) → end_eq e f ≡ false → is_among xs f ≡ true → is_living (s.ends f).place ≡ true
    living-within f apart is = let z = its-within f apart is in lives w s few links right f k z.view z.was

    own-kept : IsEndKept (s.ends e) (t e)
    own-kept =
        record {
          made = ap (λ (z : End). is_made z.place) x.own;
          living = ap (λ (z : End). is_living z.place) x.own;
          inward = ap (λ (z : End). z.inward) x.own;
          noticed = ap (λ (z : End). z.noticed) x.own;
          matched = λ m is. absurd (none-matched (s.ends e).outward m x.before.message is);
          taken = λ is. absurd (true≢false (sym (ap is_taken is) ∙ x.before.taken));
          message = x.after.message ∙ sym x.before.message;
          takes = x.after.taken ∙ sym x.before.taken;
        }

    within-kept : (f : EndId) → end_eq e f ≡ false → is_among xs f ≡ true → IsEndKept (s.ends f) (t f)
    within-kept f apart is =
        let living : is_living (s.ends f).place ≡ true = living-within f apart is in
        subst (IsEndKept (s.ends f)) (sym (x.within f is))
        (record {
          made = living-made at x.living ∙ sym (living-made (s.ends f).place living);
          living = x.living ∙ sym living;
          inward = refl;
          noticed = refl;
          matched = λ m same. (refl, refl);
          taken = λ same. (refl, refl);
          message = refl;
          takes = refl;
        })

    end-kept : (a : End) → IsEndKept a a
    end-kept a = record { made = refl; living = refl; inward = refl; noticed = refl; matched = λ m is. (refl, refl); taken = λ is. (refl, refl); message = refl; takes = refl }

    ends-kept : (f : EndId) → IsEndKept (s.ends f) (t f)
    ends-kept f = by (which e xs f)
      where
        by : Which e xs f → IsEndKept (s.ends f) (t f)
        by (its same) = subst (λ z. IsEndKept (s.ends z) (t z)) same own-kept
        by (within apart is) = within-kept f apart is
        by (away apart not) = subst (IsEndKept (s.ends f)) (sym (x.away f apart not)) (end-kept (s.ends f))

    -- ---- fields

    pub own-fields-now : (stand : Stand) (m : MovingPicture) → HasFields u e stand m → m ≡ y.value
    own-fields-now Flying m has =
        let no : Flying ≡ At k = (own-fields w s few links right e k v Flying m x.here ((packet-same w u x.packets (λ q. Contains (values_of q) m)).0 has.0, has.1)).0 in
        absurd cc
    own-fields-now (At j) m has = by (at-kernel j)
      where
        same-kernel : At j ≡ At k → j ≡ k
        same-kernel is = cc

        by : (j ≡ k) ⊎ ((j ≢ k) × ((f : EndId) → entry_at u j f ≡ entry_at w j f)) → m ≡ y.value
        by (inl here) = some-same m y.value (sym has ∙ ap value_of (ap (λ z. entry_at u z e) here ∙ now-own))
        by (inr there) = absurd (there.0 (same-kernel (own-fields w s few links right e k v (At j) m x.here (ap value_of (sym (there.1 e)) ∙ has)).0))

    pub other-fields : (f : EndId) → end_eq e f ≡ false → (stand : Stand) (m : MovingPicture) → HasFields u f stand m → HasFields w f stand m
    other-fields f apart Flying m has = ((packet-same w u x.packets (λ q. Contains (values_of q) m)).0 has.0, has.1)
    other-fields f apart (At j) m has = by (which e xs f) (at-kernel j)
      where
        by : Which e xs f → (j ≡ k) ⊎ ((j ≢ k) × ((f : EndId) → entry_at u j f ≡ entry_at w j f)) → value_of (entry_at w j f) ≡ Some m
        by _ (inr there) = ap value_of (sym (there.1 f)) ∙ has
        by (its same) (inl here) = absurd (true≢false (sym (end_eq-refl e) ∙ ap (end_eq e) same ∙ apart))
        by (within _ is) (inl here) =
            let z = its-within f apart is in
            ap (λ j. value_of (entry_at w j f)) here ∙ ap value_of z.was ∙ sym (ap value_of z.now) ∙ sym (ap (λ j. value_of (entry_at u j f)) here) ∙ has
        by (away _ not) (inl here) = ap value_of (sym (away-entry j f apart not)) ∙ has

    sent-same : (f : EndId) → end_eq e f ≡ false → (t f).sent ≡ (s.ends f).sent
    sent-same f apart = by (which e xs f)
      where
        by : Which e xs f → (t f).sent ≡ (s.ends f).sent
        by (its same) = absurd (true≢false (sym (end_eq-refl e) ∙ ap (end_eq e) same ∙ apart))
        by (within _ is) = ap (λ (z : End). z.sent) (x.within f is)
        by (away _ not) = ap (λ (z : End). z.sent) (x.away f apart not)

    sent-now : (f : EndId) (stand : Stand) (m : MovingPicture) → is_living (t f).place ≡ true → HasFields u f stand m → m.sent ≡ (t f).sent
    sent-now f stand m living has = by (end_eq e f) refl
      where
        by : (b : Bool) → end_eq e f ≡ b → m.sent ≡ (t f).sent
        by true same =
            let is : e ≡ f = end_eq-same e f same in
            ap (λ (z : MovingPicture). z.sent) (own-fields-now stand m (subst (λ z. HasFields u z stand m) (sym is) has)) ∙ sym (ap (λ (z : End). z.sent) x.own) ∙ ap (λ z. (t z).sent) is
        by false apart = (right.counted f).sent stand m (sym (ends-kept f).living ∙ living) (other-fields f apart stand m has) ∙ sym (sent-same f apart)

    -- ---- all

    owners-kept : (j : ℕ) (f : EndId) (a b : HereView) (n : ℕ) (p : Pid) → entry_at w j f ≡ entry.Here a → entry_at u j f ≡ entry.Here b → b.inward ≡ kernel_inward.Withdrawing n → b.holder ≡ holder.Owner p → a.holder ≡ holder.Owner p
    owners-kept j f a b n p was now withdrawing held = by (which e xs f) (at-kernel j)
      where
        differ : kernel_inward.Idle ≡ kernel_inward.Withdrawing n → ⊥
        differ is = cc

        by : Which e xs f → (j ≡ k) ⊎ ((j ≢ k) × ((f : EndId) → entry_at u j f ≡ entry_at w j f)) → a.holder ≡ holder.Owner p
        by _ (inr there) = ap (λ (z : HereView). z.holder) (view-same a b (sym was ∙ sym (there.1 f) ∙ now)) ∙ held
        by (its same) (inl here) =
            let old : v ≡ a = view-same v a (sym x.here ∙ ap (entry_at w k) same ∙ ap (λ z. entry_at w z f) (sym here) ∙ was) in
            let new : y ≡ b = view-same y b (sym now-own ∙ ap (entry_at u k) same ∙ ap (λ z. entry_at u z f) (sym here) ∙ now) in
            ap (λ (z : HereView). z.holder) (sym old) ∙ sym x.holder ∙ ap (λ (z : HereView). z.holder) new ∙ held
        by (within apart is) (inl here) =
            let z = its-within f apart is in
            let new : record z.view { holder = h } ≡ b = view-same (record z.view { holder = h }) b (sym z.now ∙ ap (λ z. entry_at u z f) (sym here) ∙ now) in
            absurd (differ (sym z.idle.inward ∙ ap (λ (z : HereView). z.inward) new ∙ withdrawing))
        by (away apart not) (inl here) = ap (λ (z : HereView). z.holder) (view-same a b (sym was ∙ sym (away-entry j f apart not) ∙ now)) ∙ held

    pub regrouped-kept : AreLinksKept w u s (record s { ends = t })
    regrouped-kept =
        record {
          entries = entries-kept;
          packets = x.packets;
          ends = ends-kept;
          process = λ q. refl;
          homes = refl;
          kernels = refl;
          owners = owners-kept;
          sent = sent-now;
        }

    -- no number is above what it was but that of sends of the end
    pub few-now : y.value.sent ≤ i + 1 → (f : EndId) (stand : Stand) (m : MovingPicture) → HasFields u f stand m → (m.hops ≤ i) × (m.asked ≤ i) × (m.sent ≤ i + 1)
    few-now sent f stand m has =
        let o = fields-was regrouped-kept f stand m has in
        let old : IsFew i o.0 = right.few f stand o.0 o.1 in
        (subst (λ z. z ≤ i) (sym (ap (λ (z : MovingPicture). z.hops) o.2)) old.hops, subst (λ z. z ≤ i) (sym (ap (λ (z : MovingPicture). z.asked) o.2)) old.asked, by (end_eq e f) refl)
      where
        by : (b : Bool) → end_eq e f ≡ b → m.sent ≤ i + 1
        by true same = subst (λ z. z ≤ i + 1) (sym (ap (λ (z : MovingPicture). z.sent) (own-fields-now stand m (subst (λ z. HasFields u z stand m) (sym (end_eq-same e f same)) has)))) sent
        by false apart = let old : m.sent ≤ i = (right.few f stand m (other-fields f apart stand m has)).sent in omega (arith, old)

    pub regrouped-right : y.value.sent ≤ i + 1 → AreRight (i + 1) u (record s { ends = t })
    regrouped-right sent = kept-right regrouped-kept right (i + 1) (λ f stand m has. let is = few-now sent f stand m has in record { hops = omega (arith, is.0); sent = is.2; asked = omega (arith, is.1) })
