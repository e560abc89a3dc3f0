-- Where the fields of an end stand that left a mark, and which kernels keep entries.
use Rattle.std.proofs.Common.{◌≡◌, ℕ, ◌+◌, ◌<◌, ◌≤◌, Bool, true, false, true≢false, nat_lt, ltb-true, ltb-false, Some, None, refl, sym, ap, ◌∙◌, arith}
use Rattle.charlotte_calls.specs.declared.names.EndId.{EndId}
use Rattle.charlotte_packets.specs.declared.picture.MovingPicture.{MovingPicture}
use Rattle.end_table.specs.declared.entry.Entry.{Entry}
use Rattle.end_table.specs.declared.entry.Entry.TheVariants as entry
use Rattle.kernel_step.specs.Rows.{is_here}
use Rattle.service_step.specs.Ends.{is_living}
use Rattle.service_step.specs.declared.state.End.{End}
use Rattle.service_step.specs.declared.state.Place.{Place}
use Rattle.trace_events.proofs.Allowed.{sum_over-least}
use Rattle.trace_events.proofs.Values.{values-least}
use Rattle.theorem_meaning.specs.Fields.{At, Flying, HasFields, Stand, value_of}
use Rattle.theorem_meaning.specs.Invariant.{AreMarked, AreNamed}
use Rattle.theorem_meaning.specs.Packets.{Links, one_if, over_kernels, sum_over, values_for, values_of}
use Rattle.theorem_meaning.specs.StandsFor.{entry_at, standing}
use Rattle.theorem_take_silent.proofs.Alike.{some-same}
use Rattle.theorem_take_silent.proofs.Places.{here-living, list-below}

module _ (n : ℕ) (w : Links) (t : EndId → End) (few : n ≤ 8) (named : AreNamed n w t) (marked : (e : EndId) → AreMarked w t e) (once : (e : EndId) → standing w e ≡ one_if (is_living (t e).place)) where
  -- a kernel that keeps an entry is one of eight
  pub kernel-low : (k : ℕ) (e : EndId) (y : Entry) → entry_at w k e ≡ y → (y ≡ entry.Nothing → ⊥) → k < 8
  kernel-low k e y at some = by (nat_lt k n) refl
    where
      by : (b : Bool) → nat_lt k n ≡ b → k < 8
      by true below = let low : k < n = ltb-true k n below in omega (arith, low, few)
      by false above = absurd (some (sym at ∙ named.away k e (ltb-false k n above)))

  -- an end of which a value is in a packet lives
  pub flying-lives : (e : EndId) (m : MovingPicture) → HasFields w e Flying m → is_living (t e).place ≡ true
  unfolding standing
  flying-lives e m has = by (is_living (t e).place) refl
    where
      by : (b : Bool) → is_living (t e).place ≡ b → is_living (t e).place ≡ true
      by true is = is
      by false is =
          let below = list-below n w t few named marked once has.0.from has.0.to has.0.packet has.0.there in
          let value = values-least e (values_of has.0.packet.what) m has.1 has.0.is in
          let flies = sum_over-least (λ q. values_for e (values_of q)) w has.0.from has.0.to has.0.packet below.0 below.1 has.0.there in
          let stands : over_kernels (λ k. one_if (is_here (entry_at w k e))) + sum_over (λ q. values_for e (values_of q)) w ≡ one_if (is_living (t e).place) = once e in
          let none : one_if (is_living (t e).place) ≡ 0 = ap one_if is in
          absurd (omega (arith, value, flies, stands, none))

  -- the fields of an end that left a mark are in the mark
  pub fields-mark : (e : EndId) (k : ℕ) (m : MovingPicture) (at : Stand) (o : MovingPicture) → entry_at w k e ≡ entry.Destroyed m → HasFields w e at o → (at ≡ At k) × (o ≡ m)
  fields-mark e k m at o mark has = by at has
    where
      dead : is_living (t e).place ≡ true → ⊥
      dead lives = true≢false (sym lives ∙ ap (λ (p : Place). is_living p) ((marked e).destroyed k m mark))

      at_kernel : (j : ℕ) (x : Entry) → entry_at w j e ≡ x → value_of x ≡ Some o → (At j ≡ At k) × (o ≡ m)
      at_kernel j entry.Nothing there has = absurd (let none : None ≡ Some o = has in cc)
      at_kernel j (entry.Left to hops) there has = absurd (let none : None ≡ Some o = has in cc)
      at_kernel j (entry.Here v) there has = absurd (dead (here-living n w t few named marked once e j v there))
      at_kernel j (entry.Destroyed x) there has =
          let same : j ≡ k = (marked e).once j k x m there mark in
          (ap At same, some-same o m (sym has ∙ ap value_of (sym there ∙ ap (λ z. entry_at w z e) same ∙ mark)))

      by : (at : Stand) → HasFields w e at o → (at ≡ At k) × (o ≡ m)
      by Flying has = absurd (dead (flying-lives e o has))
      by (At j) has = at_kernel j (entry_at w j e) refl has
