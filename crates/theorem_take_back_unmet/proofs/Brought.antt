-- Ends that come with values, the entries that they get, and that none of them is here; and the table that a taking leaves.
use Rattle.std.proofs.Common.{◌≡◌, ℕ, ◌+◌, ◌<◌, ◌≤◌, Bool, true, false, ◌||◌, if◌then◌else◌, List, [], ◌∷◌, Contains, slice_index, refl, sym, ap, subst, ◌∙◌, arith, true≢false, ltb-true}
use Rattle.std.specs.List.{list_any}
use Rattle.charlotte_calls.specs.declared.names.EndId.{EndId}
use Rattle.charlotte_packets.specs.declared.picture.MovingPicture.{MovingPicture}
use Rattle.charlotte_packets.specs.declared.picture.Picture.{Picture}
use Rattle.end_table.proofs.EndEq.{end_eq-refl, end_eq-same, end_eq-sym}
use Rattle.end_table.specs.Place.{end_eq}
use Rattle.end_table.specs.Table.{IsHere}
use Rattle.end_table.specs.declared.entry.Entry.{Entry}
use Rattle.end_table.specs.declared.entry.Entry.TheVariants as entry
use Rattle.kernel_effects.specs.Effect.{brings}
use Rattle.kernel_sound.proofs.Values.{AreComing}
use Rattle.kernel_step.proofs.Folds.{AreDifferent}
use Rattle.kernel_step.specs.Rows.{ends_in, is_here}
use Rattle.kernel_world.specs.World.{World}
use Rattle.service_change.proofs.Change.{living-made}
use Rattle.service_step.specs.Ends.{is_living}
use Rattle.service_step.specs.State.{State}
use Rattle.theorem_take_answer.proofs.Allowed.{between, sum_over-least}
use Rattle.theorem_take_answer.proofs.Aside.{ends_in-there}
use Rattle.theorem_take_answer.proofs.Lists.{first, later}
use Rattle.theorem_meaning.proofs.Sums.{over-least}
use Rattle.theorem_meaning.specs.Invariant.{Invariant}
use Rattle.theorem_meaning.specs.Packets.{links_of, one_if, over_kernels, sum_over, values_for, values_of}
use Rattle.theorem_meaning.specs.StandsFor.{standing}
use Rattle.theorem_ends_destroyed.proofs.Facts.{or-true, true-or, values-counted}
use Rattle.theorem_meaning.proofs.Plain.{at_most_one}

-- a value of an end, whose entry it brings
pub record IsBrought (e : EndId) (ms : List MovingPicture) : Type 0 where
  pub value : MovingPicture
  pub there : Contains ms value
  pub of : value.end ≡ e
  pub brought : (word : MovingPicture → Entry) (others : EndId → Entry → Entry) (y : Entry) → brings ms word others e y ≡ word value

pub brought-of : (e : EndId) (ms : List MovingPicture) → list_any (end_eq e) (ends_in ms) ≡ true → IsBrought e ms
brought-of e [] is = absurd (true≢false (sym is))
brought-of e (m ∷ ms) is = by (end_eq e m.end) refl is (brought-of e ms)
  where
    by : (b : Bool) → end_eq e m.end ≡ b → (b || list_any (end_eq e) (ends_in ms)) ≡ true → (list_any (end_eq e) (ends_in ms) ≡ true → IsBrought e ms) → IsBrought e (m ∷ ms)
    by true same is rest =
        record {
          value = m;
          there = first m ms;
          of = sym (end_eq-same e m.end same);
          brought = λ word others y. ap (λ b. if b then word m else brings ms word others e y) (end_eq-sym m.end e ∙ same);
        }
    by false apart is rest =
        let one = rest is in
        record {
          value = one.value;
          there = later m ms one.value one.there;
          of = one.of;
          brought = λ word others y. ap (λ b. if b then word m else brings ms word others e y) (end_eq-sym m.end e ∙ apart) ∙ one.brought word others y;
        }

-- values come where none of their ends is here, all are of links that were made, and they differ
pub values-coming : (k made : ℕ) (t : EndId → Entry) (ms : List MovingPicture)
    → ((e : EndId) → list_any (end_eq e) (ends_in ms) ≡ true → (IsHere (t e) → ⊥) × (e.link.maker ≡ k → made ≤ e.link.count → ⊥)) → AreDifferent (ends_in ms) → AreComing k made t ms
values-coming k made t [] away different = tt
values-coming k made t (m ∷ ms) away different =
    let one = away m.end (true-or _ _ (end_eq-refl m.end)) in
    (one.0, one.1, different.0, values-coming k made t ms (λ e has. away e (or-true _ _ has)) different.1)

-- an end whose value is in a packet
module _ {i : ℕ} {w : World} {s : State} (is : Invariant i w s) (from k : ℕ) (q : Picture) (has : Contains (w.packets from k) q) (e : EndId) (brings_it : list_any (end_eq e) (ends_in (values_of q.what)) ≡ true) where
  -- it is there once, lives, and is not here
  pub record IsFlying : Type 0 where
    pub living : is_living (s.ends e).place ≡ true
    pub away : is_here ((w.kernel k).table e) ≡ false
    pub once : values_for e (values_of q.what) ≡ 1

  pub brought-flies : IsFlying
  unfolding standing
  brought-flies =
      let near = between is from k q has in
      let below : k < 8 = omega (arith, near.1, is.setting.few) in
      let its = brought-of e (values_of q.what) brings_it in
      let counts : 1 ≤ values_for e (values_of q.what) = values-counted e (values_of q.what) (subst (Contains (ends_in (values_of q.what))) its.of (ends_in-there (values_of q.what) its.value its.there)) in
      let least : values_for e (values_of q.what) ≤ sum_over (λ z. values_for e (values_of z)) (links_of w)
      = sum_over-least (λ z. values_for e (values_of z)) (links_of w) from k q (omega (arith, near.0, is.setting.few)) below has in
      let here : one_if (is_here ((w.kernel k).table e)) ≤ over_kernels (λ j. one_if (is_here ((w.kernel j).table e))) = over-least (λ j. one_if (is_here ((w.kernel j).table e))) k below in
      let stands : over_kernels (λ j. one_if (is_here ((w.kernel j).table e))) + sum_over (λ z. values_for e (values_of z)) (links_of w) ≡ one_if (is_living (s.ends e).place) = is.stands.links.once e in
      let most = at_most_one (is_living (s.ends e).place) in
      record {
        living = is-true (is_living (s.ends e).place) (omega (arith, counts, least, stands));
        away = is-false (is_here ((w.kernel k).table e)) (omega (arith, counts, least, here, stands, most));
        once = omega (arith, counts, least, stands, most);
      }
    where
      is-true : (b : Bool) → 1 ≤ one_if b → b ≡ true
      is-true true some = refl
      is-true false some = absurd (omega (arith, some))

      is-false : (b : Bool) → one_if b ≤ 0 → b ≡ false
      is-false true none = absurd (omega (arith, none))
      is-false false none = refl

  -- its link was made
  pub brought-made : e.link.maker ≡ k → (w.kernel k).made ≤ e.link.count → ⊥
  brought-made its_maker beyond =
      let low = ltb-true e.link.count (slice_index s.made e.link.maker) (sym (is.service.kept.made e) ∙ living-made (s.ends e).place brought-flies.living) in
      let made : slice_index s.made e.link.maker ≡ (w.kernel k).made = ap (slice_index s.made) its_maker ∙ is.setting.made k in
      omega (arith, low, made, beyond)

  pub brought-away : IsHere ((w.kernel k).table e) → ⊥
  brought-away = by ((w.kernel k).table e) brought-flies.away
    where
      by : (y : Entry) → is_here y ≡ false → IsHere y → ⊥
      by (entry.Here v) away here = true≢false away
      by _ away here = here
