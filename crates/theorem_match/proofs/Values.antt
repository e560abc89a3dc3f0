-- The values of ends that a message encloses, as they leave.
use Rattle.std.proofs.Common.{◌≡◌, ◌⊎◌, inl, inr, ℕ, ◌+◌, ◌<◌, ◌≤◌, Bool, true, false, nat_le, ◌||◌, List, [], ◌∷◌, ◌++◌, Contains, refl, sym, ap, subst, ◌∙◌, arith, true≢false}
use Rattle.std.proofs.lemmas.Bool.Decides.{leb_tells}
use Rattle.std.proofs.lemmas.List.Elements.{Contains-append_cases}
use Rattle.std.specs.List.{flat_map, list_any}
use Rattle.charlotte_calls.specs.declared.names.EndId.{EndId}
use Rattle.charlotte_packets.specs.declared.picture.MovingPicture.{MovingPicture}
use Rattle.charlotte_packets.specs.declared.picture.Picture.{Picture}
use Rattle.charlotte_packets.specs.declared.picture.PictureWhat.{PictureWhat}
use Rattle.end_table.proofs.EndEq.{end_eq-same}
use Rattle.end_table.specs.Entries.{left_value}
use Rattle.end_table.specs.Place.{end_eq}
use Rattle.end_table.specs.Table.{IsHereAnd, IsIdle, IsOfEnd}
use Rattle.end_table.specs.declared.entry.Entry.{Entry}
use Rattle.end_table.specs.declared.entry.Entry.TheVariants as entry
use Rattle.end_table.specs.declared.entry.HereView.{HereView}
use Rattle.end_table.specs.declared.entry.Holder.TheVariants as holder
use Rattle.kernel_sound.specs.Sound.{AreHeldBy}
use Rattle.kernel_step.proofs.Folds.{AreDifferent}
use Rattle.kernel_step.specs.Actions.{here, value_leaving, values_leaving}
use Rattle.kernel_step.specs.Rows.{ends_in}
use Rattle.theorem_call_send.proofs.Allowed.{sum_over-least}
use Rattle.theorem_call_send.proofs.Lists.{first, first_or_later, later, none-there, only-there}
use Rattle.theorem_meaning.specs.Invariant.{AreNamed}
use Rattle.theorem_meaning.specs.Packets.{IsUnderWay, Links, how_many, one_if, values_for}
use Rattle.service_step.specs.declared.state.End.{End}
use Rattle.theorem_meaning.proofs.Plain.{there-here}

-- an end that is among others
pub any-there : (e : EndId) (xs : List EndId) → list_any (end_eq e) xs ≡ true → Contains xs e
any-there e [] is = absurd (true≢false (sym is))
any-there e (x ∷ xs) is = by (end_eq e x) refl is (any-there e xs)
  where
    by : (b : Bool) → end_eq e x ≡ b → (b || list_any (end_eq e) xs) ≡ true → (list_any (end_eq e) xs ≡ true → Contains xs e) → Contains (x ∷ xs) e
    by true same is rest = subst (Contains (x ∷ xs)) (sym (end_eq-same e x same)) (first x xs)
    by false apart is rest = later x xs e (rest is)

-- values of different ends count once each
pub values-once : (e : EndId) (ms : List MovingPicture) → AreDifferent (ends_in ms) → values_for e ms ≡ one_if (list_any (end_eq e) (ends_in ms))
values-once e [] different = refl
values-once e (m ∷ ms) different = by (end_eq e m.end) refl (values-once e ms different.1)
  where
    by : (b : Bool) → end_eq e m.end ≡ b → values_for e ms ≡ one_if (list_any (end_eq e) (ends_in ms)) → one_if b + values_for e ms ≡ one_if (b || list_any (end_eq e) (ends_in ms))
    by true same rest =
        let none : one_if (list_any (end_eq e) (ends_in ms)) ≡ 0 = ap one_if (ap (λ z. list_any (end_eq z) (ends_in ms)) (end_eq-same e m.end same) ∙ different.0) in
        omega (arith, rest, none)
    by false apart rest = omega (arith, rest)

-- ---- ends that the send of e holds

module _ (e : EndId) (t : EndId → Entry) where
  -- each is idle, and held by it
  pub held-at : (xs : List EndId) (x : EndId) → AreHeldBy e t xs → Contains xs x → IsHereAnd (t x) (λ v. IsIdle v × (v.holder ≡ holder.EnclosedIn e))
  held-at [] x held has = absurd (none-there x has)
  held-at (y ∷ ys) x held has = by (held-at ys x held.2) (first_or_later y ys x has)
    where
      by : (Contains ys x → IsHereAnd (t x) (λ v. IsIdle v × (v.holder ≡ holder.EnclosedIn e))) → (y ≡ x) ⊎ Contains ys x → IsHereAnd (t x) (λ v. IsIdle v × (v.holder ≡ holder.EnclosedIn e))
      by rest (inl is) = subst (λ z. IsHereAnd (t z) (λ v. IsIdle v × (v.holder ≡ holder.EnclosedIn e))) is held.0
      by rest (inr has) = rest has

  module _ (k : ℕ) where
    -- their values are of them
    pub leaving-ends : ((x : EndId) → IsOfEnd x (t x)) → (xs : List EndId) → AreHeldBy e t xs → ends_in (values_leaving k t xs) ≡ xs
    unfolding values_leaving
    leaving-ends own [] held = refl
    leaving-ends own (x ∷ xs) held =
        let v = there-here (t x) (λ v. IsIdle v × (v.holder ≡ holder.EnclosedIn e)) held.0 in
        let end : v.0.value.end ≡ x = subst (IsOfEnd x) v.1 (own x) in
        ap (λ y. ends_in (value_leaving k (here y) ++ flat_map (λ x. value_leaving k (here (t x))) xs)) v.1
        ∙ ap (λ z. z ∷ ends_in (flat_map (λ x. value_leaving k (here (t x))) xs)) end
        ∙ ap (λ l. x ∷ l) (leaving-ends own xs held.2)

-- each such value is that of one of them
pub leaving-value : (k : ℕ) (t : EndId → Entry) (xs : List EndId) (m : MovingPicture) → Contains (values_leaving k t xs) m → (x : EndId) × Contains xs x × (v : HereView) × (t x ≡ entry.Here v) × (m ≡ left_value k v.value)
unfolding values_leaving
leaving-value k t [] m has = absurd (none-there m has)
leaving-value k t (x ∷ xs) m has = by (leaving-value k t xs m) (Contains-append_cases (value_leaving k (here (t x))) (flat_map (λ x. value_leaving k (here (t x))) xs) m has)
  where
    own : (y : Entry) → t x ≡ y → Contains (value_leaving k (here y)) m → (v : HereView) × (t x ≡ entry.Here v) × (m ≡ left_value k v.value)
    own entry.Nothing at has = absurd (none-there m has)
    own (entry.Here v) at has = (v, at, sym (only-there (left_value k v.value) m has))
    own (entry.Left to hops) at has = absurd (none-there m has)
    own (entry.Destroyed l) at has = absurd (none-there m has)

    by : (Contains (flat_map (λ x. value_leaving k (here (t x))) xs) m → (y : EndId) × Contains xs y × (v : HereView) × (t y ≡ entry.Here v) × (m ≡ left_value k v.value))
        → Contains (value_leaving k (here (t x))) m ⊎ Contains (flat_map (λ x. value_leaving k (here (t x))) xs) m → (y : EndId) × Contains (x ∷ xs) y × (v : HereView) × (t y ≡ entry.Here v) × (m ≡ left_value k v.value)
    by rest (inl has) = let v = own (t x) refl has in (x, first x xs, v.0, v.1, v.2)
    by rest (inr has) = let y = rest has in (y.0, later x xs y.0 y.1, y.2, y.3, y.4)

-- ---- packets that are counted

-- where none passes a test, none of its kind is under way
pub none-counted : (n : ℕ) (w : Links) (t : EndId → End) → n ≤ 8 → AreNamed n w t → (test : PictureWhat → Bool) → how_many test w ≡ 0 → (P : PictureWhat → Type 0) → ((q : PictureWhat) → P q → test q ≡ true) → IsUnderWay w P → ⊥
none-counted n w t few named test none P passes x =
    let one : one_if (test x.packet.what) ≡ 1 = ap one_if (passes x.packet.what x.is) in
    let least : one_if (test x.packet.what) ≤ how_many test w = sum_over-least (λ q. one_if (test q)) w x.from x.to x.packet (below x.from (λ far. named.lists x.from x.to (inl far))) (below x.to (λ far. named.lists x.from x.to (inr far))) x.there in
    omega (arith, one, least, none)
  where
    below : (j : ℕ) → (n ≤ j → w.packets x.from x.to ≡ []) → j < 8
    below j empty = by (leb_tells n j)
      where
        by : ((nat_le n j ≡ true) × (n ≤ j)) ⊎ ((nat_le n j ≡ false) × (j < n)) → j < 8
        by (inl far) = absurd (none-there x.packet (subst (λ (l : List Picture). Contains l x.packet) (empty far.1) x.there))
        by (inr near) = let low : j < n = near.1 in omega (arith, low, few)
