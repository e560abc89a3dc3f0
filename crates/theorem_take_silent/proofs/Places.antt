-- An end that is here at a kernel is nowhere else.
use Rattle.std.proofs.Common.{◌≡◌, ◌≢◌, ◌⊎◌, inl, inr, ℕ, ◌+◌, ◌<◌, ◌≤◌, Bool, true, false, nat_eq, nat_lt, if◌then◌else◌, [], ◌∷◌, Contains, Some, refl, sym, ap, subst, ◌∙◌, arith, true≢false, ltb-true, ltb-false, eq-eqb, ne_eqb}
use Rattle.std.proofs.lemmas.Bool.Decides.{eqb_tells}
use Rattle.charlotte_calls.specs.declared.names.EndId.{EndId}
use Rattle.charlotte_packets.specs.declared.picture.MovingPicture.{MovingPicture}
use Rattle.charlotte_packets.specs.declared.picture.Picture.{Picture}
use Rattle.end_table.specs.declared.entry.Entry.{Entry}
use Rattle.end_table.specs.declared.entry.Entry.TheVariants as entry
use Rattle.end_table.specs.declared.entry.HereView.{HereView}
use Rattle.kernel_step.specs.Rows.{is_here}
use Rattle.service_step.specs.Ends.{is_living}
use Rattle.service_step.specs.declared.state.End.{End}
use Rattle.service_step.specs.declared.state.Place.{Place}
use Rattle.theorem_effects.proofs.Allowed.{sum_over-least}
use Rattle.theorem_effects.proofs.Lists.{none-there}
use Rattle.theorem_effects.proofs.Values.{values-least}
use Rattle.theorem_effects.proofs.Plain.{at_most_one}
use Rattle.theorem_effects.proofs.TheoremMeaningSums.{over-change, over-least}
use Rattle.theorem_effects.specs.Fields.{Stand, At, Flying, HasFields, value_of}
use Rattle.theorem_effects.specs.Invariant.{AreMarked, AreNamed}
use Rattle.theorem_effects.specs.Packets.{Links, one_if, over_kernels, sum_over, values_for, values_of}
use Rattle.theorem_effects.specs.StandsFor.{entry_at, standing}
use Rattle.theorem_take_silent.proofs.Alike.{some-same}

-- two terms are no more than the sum
over-two : (f : ℕ → ℕ) (j k : ℕ) → j < 8 → k < 8 → j ≢ k → f j + f k ≤ over_kernels f
over-two f j k low below apart =
    let g : ℕ → ℕ = λ i. if nat_eq i k then 0 else f i in
    let change : over_kernels g + f k ≡ over_kernels f + g k = over-change f g k below (λ i off. ap (λ b. if b then 0 else f i) (ne_eqb i k off)) in
    let none : g k ≡ 0 = ap (λ b. if b then 0 else f k) (eq-eqb k k refl) in
    let same : g j ≡ f j = ap (λ b. if b then 0 else f j) (ne_eqb j k apart) in
    let least : g j ≤ over_kernels g = over-least g j low in
    omega (arith, change, none, same, least)

module _ (n : ℕ) (w : Links) (t : EndId → End) (few : n ≤ 8) (named : AreNamed n w t) (marked : (e : EndId) → AreMarked w t e) (once : (e : EndId) → standing w e ≡ one_if (is_living (t e).place)) where
  kernel-below : (k : ℕ) (e : EndId) (v : HereView) → entry_at w k e ≡ entry.Here v → k < 8
  kernel-below k e v here = by (nat_lt k n) refl
    where
      by : (b : Bool) → nat_lt k n ≡ b → k < 8
      by true below = let low : k < n = ltb-true k n below in omega (arith, low, few)
      by false above = absurd (let none : entry.Nothing ≡ entry.Here v = sym (named.away k e (ltb-false k n above)) ∙ here in cc)

  pub list-below : (from to : ℕ) (q : Picture) → Contains (w.packets from to) q → (from < 8) × (to < 8)
  list-below from to q has = (by from (λ far. named.lists from to (inl far)) (nat_lt from n) refl, by to (λ far. named.lists from to (inr far)) (nat_lt to n) refl)
    where
      by : (k : ℕ) → (n ≤ k → w.packets from to ≡ []) → (b : Bool) → nat_lt k n ≡ b → k < 8
      by k none true below = let low : k < n = ltb-true k n below in omega (arith, low, few)
      by k none false above = absurd (none-there q (subst (λ l. Contains l q) (none (ltb-false k n above)) has))

  one-here : (k : ℕ) (e : EndId) (v : HereView) → entry_at w k e ≡ entry.Here v → one_if (is_here (entry_at w k e)) ≡ 1
  one-here k e v here = ap (λ (z : Entry). one_if (is_here z)) here

  -- at one kernel
  pub here-kernel : (e : EndId) (j k : ℕ) (v x : HereView) → entry_at w j e ≡ entry.Here v → entry_at w k e ≡ entry.Here x → j ≡ k
  unfolding standing
  here-kernel e j k v x here there = by (eqb_tells j k)
    where
      by : ((nat_eq j k ≡ true) × (j ≡ k)) ⊎ ((nat_eq j k ≡ false) × (j ≢ k)) → j ≡ k
      by (inl is) = is.1
      by (inr apart) =
          let two = over-two (λ k. one_if (is_here (entry_at w k e))) j k (kernel-below j e v here) (kernel-below k e x there) apart.1 in
          let stands : over_kernels (λ k. one_if (is_here (entry_at w k e))) + sum_over (λ q. values_for e (values_of q)) w ≡ one_if (is_living (t e).place) = once e in
          let most = at_most_one (is_living (t e).place) in
          let one = one-here j e v here in
          let other = one-here k e x there in
          absurd (omega (arith, two, stands, most, one, other))

  -- and in no packet
  not-flying : (e : EndId) (k : ℕ) (v : HereView) (m : MovingPicture) → entry_at w k e ≡ entry.Here v → HasFields w e Flying m → ⊥
  unfolding standing
  not-flying e k v m here has =
      let below = list-below has.0.from has.0.to has.0.packet has.0.there in
      let value = values-least e (values_of has.0.packet.what) m has.1 has.0.is in
      let flies = sum_over-least (λ q. values_for e (values_of q)) w has.0.from has.0.to has.0.packet below.0 below.1 has.0.there in
      let stands : over_kernels (λ k. one_if (is_here (entry_at w k e))) + sum_over (λ q. values_for e (values_of q)) w ≡ one_if (is_living (t e).place) = once e in
      let least = over-least (λ k. one_if (is_here (entry_at w k e))) k (kernel-below k e v here) in
      let most = at_most_one (is_living (t e).place) in
      let one = one-here k e v here in
      omega (arith, value, flies, stands, least, most, one)

  pub here-living : (e : EndId) (k : ℕ) (v : HereView) → entry_at w k e ≡ entry.Here v → is_living (t e).place ≡ true
  unfolding standing
  here-living e k v here = by (is_living (t e).place) refl
    where
      by : (b : Bool) → is_living (t e).place ≡ b → is_living (t e).place ≡ true
      by true is = is
      by false is =
          let stands : over_kernels (λ k. one_if (is_here (entry_at w k e))) + sum_over (λ q. values_for e (values_of q)) w ≡ one_if (is_living (t e).place) = once e in
          let least = over-least (λ k. one_if (is_here (entry_at w k e))) k (kernel-below k e v here) in
          let one = one-here k e v here in
          let none : one_if (is_living (t e).place) ≡ 0 = ap one_if is in
          absurd (omega (arith, stands, least, one, none))

  -- so its fields are those
  pub fields-here : (e : EndId) (k : ℕ) (v : HereView) (at : Stand) (m : MovingPicture) → entry_at w k e ≡ entry.Here v → HasFields w e at m → (at ≡ At k) × (m ≡ v.value)
  fields-here e k v Flying m here has = absurd (not-flying e k v m here has)
  fields-here e k v (At j) m here has = by (entry_at w j e) refl has
    where
      by : (x : Entry) → entry_at w j e ≡ x → value_of x ≡ Some m → (At j ≡ At k) × (m ≡ v.value)
      by entry.Nothing there has = absurd cc
      by (entry.Left to hops) there has = absurd cc
      by (entry.Destroyed l) there has =
          let dead : is_living (t e).place ≡ false = ap (λ (p : Place). is_living p) ((marked e).destroyed j l there) in
          absurd (true≢false (sym (here-living e k v here) ∙ dead))
      by (entry.Here x) there has =
          let same : j ≡ k = here-kernel e j k x v there here in
          (ap At same, some-same m v.value (sym has ∙ ap value_of (sym there ∙ ap (λ z. entry_at w z e) same ∙ here)))
