-- What is true of each of some values, of those that arrive or pass on, and of those that leave.
use Rattle.std.proofs.Common.{◌≡◌, ◌⊎◌, inl, inr, ℕ, ◌+◌, ◌≤◌, Bool, true, false, if◌then◌else◌, List, [], ◌∷◌, map, Contains, refl, ap, ◌∙◌, arith}
use Rattle.std.specs.List.{AllByRecursion, flat_map}
use Rattle.charlotte_calls.specs.declared.names.EndId.{EndId}
use Rattle.charlotte_packets.specs.declared.picture.MovingPicture.{MovingPicture}
use Rattle.charlotte_packets.specs.declared.picture.PictureWhat.{PictureWhat}
use Rattle.end_table.proofs.EndEq.{end_eq-refl}
use Rattle.end_table.specs.Entries.{left_value, settled}
use Rattle.end_table.specs.Place.{end_eq, put}
use Rattle.end_table.specs.Table.{IsHere}
use Rattle.end_table.specs.declared.entry.Entry.{Entry}
use Rattle.end_table.specs.declared.entry.Entry.TheVariants as entry
use Rattle.end_table.specs.declared.entry.HereView.{HereView}
use Rattle.end_table.specs.declared.entry.Holder.{Holder}
use Rattle.kernel_effects.proofs.Uses.{all-append}
use Rattle.kernel_sound.proofs.Values.{AreComing}
use Rattle.kernel_step.proofs.Folds.{AreDifferent}
use Rattle.kernel_step.specs.Actions.{here, value_leaving, values_leaving}
use Rattle.kernel_step.specs.Rows.{arriving, ends_in, is_carried, passing}
use Rattle.theorem_meaning.specs.Packets.{one_if, values_for}
use Rattle.theorem_effects.proofs.Lists.{first, first_or_later, later, none-there}

-- what is true of each gives another thing of each
pub each-weaker : {X : Type 0} (P Q : X → Type 0) → ((x : X) → P x → Q x) → (xs : List X) → AllByRecursion P xs → AllByRecursion Q xs
each-weaker P Q gives [] are = tt
each-weaker P Q gives (x ∷ xs) are = (gives x are.0, each-weaker P Q gives xs are.1)

module _ (P : MovingPicture → Type 0) where
  pub passing-each : (k made : ℕ) (t : EndId → Entry) (ms : List MovingPicture) → AllByRecursion P ms → AllByRecursion P (passing k made t ms)
  passing-each k made t [] are = tt
  passing-each k made t (m ∷ ms) are = by (is_carried k made t m) (passing-each k made t ms are.1)
    where
      by : (b : Bool) → AllByRecursion P (passing k made t ms) → AllByRecursion P (if b then m ∷ passing k made t ms else passing k made t ms)
      by true rest = (are.0, rest)
      by false rest = rest

  pub arriving-each : (k made : ℕ) (h : Holder) (t : EndId → Entry) (ms : List MovingPicture) → AllByRecursion P ms → AllByRecursion P (arriving k made h t ms)
  arriving-each k made h t [] are = tt
  arriving-each k made h t (m ∷ ms) are = by (is_carried k made t m) (arriving-each k made h (put t m.end (entry.Here (settled h m))) ms are.1) (arriving-each k made h t ms are.1)
    where
      later : List MovingPicture
      later = arriving k made h (put t m.end (entry.Here (settled h m))) ms

      by : (b : Bool) → AllByRecursion P later → AllByRecursion P (arriving k made h t ms) → AllByRecursion P (if b then m ∷ later else arriving k made h t ms)
      by true rest same = (are.0, rest)
      by false rest same = same

  -- the values of ends as they leave
  pub leaving-each : (k : ℕ) (t : EndId → Entry) (xs : List EndId) → AllByRecursion (λ x. (v : HereView) → t x ≡ entry.Here v → P (left_value k v.value)) xs → AllByRecursion P (values_leaving k t xs)
  unfolding values_leaving
  leaving-each k t [] are = tt
  leaving-each k t (x ∷ xs) are = all-append P (value_leaving k (here (t x))) (flat_map (λ x. value_leaving k (here (t x))) xs) (by (t x) are.0) (leaving-each k t xs are.1)
    where
      by : (y : Entry) → ((v : HereView) → y ≡ entry.Here v → P (left_value k v.value)) → AllByRecursion P (value_leaving k (here y))
      by entry.Nothing is = tt
      by (entry.Here v) is = (is v refl, tt)
      by (entry.Left to hops) is = tt
      by (entry.Destroyed m) is = tt

  -- values that go on with one hop more
  pub left-each : (k : ℕ) → ((m : MovingPicture) → P m → P (left_value k m)) → (ms : List MovingPicture) → AllByRecursion P ms → AllByRecursion P (map (left_value k) ms)
  left-each k gives [] are = tt
  left-each k gives (m ∷ ms) are = (gives m are.0, left-each k gives ms are.1)

  -- packets that each of them makes
  pub packets-each : (Q : ℕ × PictureWhat → Type 0) (packets : MovingPicture → List (ℕ × PictureWhat)) → ((m : MovingPicture) → P m → AllByRecursion Q (packets m)) → (ms : List MovingPicture) → AllByRecursion P ms
      → AllByRecursion Q (flat_map packets ms)
  packets-each Q packets gives [] are = tt
  packets-each Q packets gives (m ∷ ms) are = all-append Q (packets m) (flat_map packets ms) (gives m are.0) (packets-each Q packets gives ms are.1)

-- ---- a value among some

-- the value of an end that is among some
pub value-found : (e : EndId) (ms : List MovingPicture) → Contains (ends_in ms) e → (m : MovingPicture) × Contains ms m × (m.end ≡ e)
value-found e [] has = absurd (none-there e has)
value-found e (m ∷ ms) has = by (value-found e ms) (first_or_later m.end (ends_in ms) e has)
  where
    by : (Contains (ends_in ms) e → (o : MovingPicture) × Contains ms o × (o.end ≡ e)) → (m.end ≡ e) ⊎ Contains (ends_in ms) e → (o : MovingPicture) × Contains (m ∷ ms) o × (o.end ≡ e)
    by rest (inl is) = (m, first m ms, is)
    by rest (inr has) = let o = rest has in (o.0, later m ms o.0 o.1, o.2)

-- a value counts among those of its end
pub values-least : (e : EndId) (ms : List MovingPicture) (m : MovingPicture) → m.end ≡ e → Contains ms m → 1 ≤ values_for e ms
values-least e [] m of has = absurd (none-there m has)
values-least e (x ∷ xs) m of has = by (values-least e xs m of) (first_or_later x xs m has)
  where
    by : (Contains xs m → 1 ≤ values_for e xs) → (x ≡ m) ⊎ Contains xs m → 1 ≤ one_if (end_eq e x.end) + values_for e xs
    by rest (inl is) = let one : one_if (end_eq e x.end) ≡ 1 = ap one_if (ap (λ (z : MovingPicture). end_eq e z.end) is ∙ ap (end_eq e) of ∙ end_eq-refl e) in omega (arith, one)
    by rest (inr there) = let least = rest there in omega (arith, least)

-- all of them come, where none is of an end that is here, or of a link that is not made
pub all-coming : (k made : ℕ) (t : EndId → Entry) (ms : List MovingPicture) → AreDifferent (ends_in ms) → ((m : MovingPicture) → Contains ms m → (IsHere (t m.end) → ⊥) × (m.end.link.maker ≡ k → made ≤ m.end.link.count → ⊥)) → AreComing k made t ms
all-coming k made t [] different is = tt
all-coming k made t (m ∷ ms) different is = let own = is m (first m ms) in (own.0, own.1, different.0, all-coming k made t ms different.1 (λ x has. is x (later m ms x has)))
