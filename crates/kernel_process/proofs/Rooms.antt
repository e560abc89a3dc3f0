-- One process of a list is set.
use Rattle.std.proofs.Common.{◌≡◌, ◌≢◌, ◌⊎◌, inl, inr, ℕ, ◌+◌, ◌<◌, true, false, nat_eq, List, length, slice_set, map, ap, sym, subst, ◌∙◌, get_or, arith}
use Rattle.std.proofs.lemmas.Bool.Decides.{eqb_tells}
use Rattle.std.proofs.lemmas.Grind.{get_or-set_at}
use Rattle.std.proofs.lemmas.List.{get_or-set_other, map-set, set-get_or}

-- what f sees of each process stays, where it sees the same of the one that is set
pub same_map : {X A : Type 0} (f : X → A) (xs : List X) (i : ℕ) (d y : X) → f y ≡ f (get_or xs i d) → map f (slice_set xs i y) ≡ map f xs
same_map f xs i d y same =
    map-set f xs i y ∙ ap (slice_set (map f xs) i) same ∙ sym (map-set f xs i (get_or xs i d)) ∙ ap (map f) (set-get_or xs i d)

-- what holds of each before i, and of the one that is set at i, holds of each up to i
pub set_more : {X : Type 0} (P : X → Type 0) (xs : List X) (i : ℕ) (y : X) → ((k : ℕ) (d : X) → k < i → P (get_or xs k d)) → i < length xs → P y → (k : ℕ) (d : X) → k < i + 1 → P (get_or (slice_set xs i y) k d)
set_more P xs i y before within holds k d below = by (eqb_tells k i)
  where
    by : ((nat_eq k i ≡ true) × (k ≡ i)) ⊎ ((nat_eq k i ≡ false) × (k ≢ i)) → P (get_or (slice_set xs i y) k d)
    by (inl t) = subst P (sym (get_or-set_at xs i k y d t.1 within)) holds
    by (inr t) = subst P (sym (get_or-set_other xs i k y d t.1)) (before k d (let other : k ≢ i = t.1 in omega arith))
