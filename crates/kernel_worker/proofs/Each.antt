-- Of two lists each element of one and the one at its place in the other.
use Rattle.std.proofs.Common.{◌≡◌, ℕ, zero, suc, ◌<◌, List, [], ◌∷◌, All, Some, None, length, refl, subst, arith}
use Rattle.std.specs.Prelude.{slice_get, slice_index_or}
use Rattle.std.proofs.lemmas.List.Elements.{All-cons, All-head, All-nil, All-tail}
use Rattle.kernel_worker.specs.Rounds.{EachOf}

module _ {X : Type 0} where
  pub each-same : (R : X → X → Type 0) → ((x : X) → R x x) → (xs : List X) → EachOf R xs xs
  each-same R same [] = tt
  each-same R same (x ∷ xs) = (same x, each-same R same xs)

  pub each-weaker : (R S : X → X → Type 0) → ((x y : X) → R x y → S x y) → (xs ys : List X) → EachOf R xs ys → EachOf S xs ys
  each-weaker R S weaker [] [] each = tt
  each-weaker R S weaker [] (y ∷ ys) each = absurd each
  each-weaker R S weaker (x ∷ xs) [] each = absurd each
  each-weaker R S weaker (x ∷ xs) (y ∷ ys) each = (weaker x y each.0, each-weaker R S weaker xs ys each.1)

  pub each-both : (R S T : X → X → Type 0) → ((x y z : X) → R x y → S y z → T x z) → (xs ys zs : List X) → EachOf R xs ys → EachOf S ys zs → EachOf T xs zs
  each-both R S T both [] [] [] one two = tt
  each-both R S T both [] [] (z ∷ zs) one two = absurd two
  each-both R S T both [] (y ∷ ys) zs one two = absurd one
  each-both R S T both (x ∷ xs) [] zs one two = absurd one
  each-both R S T both (x ∷ xs) (y ∷ ys) [] one two = absurd two
  each-both R S T both (x ∷ xs) (y ∷ ys) (z ∷ zs) one two = (both x y z one.0 two.0, each-both R S T both xs ys zs one.1 two.1)

  pub each-length : (R : X → X → Type 0) (xs ys : List X) → EachOf R xs ys → length ys ≡ length xs
  each-length R [] [] each = refl
  each-length R [] (y ∷ ys) each = absurd each
  each-length R (x ∷ xs) [] each = absurd each
  each-length R (x ∷ xs) (y ∷ ys) each = let rest : length ys ≡ length xs = each-length R xs ys each.1 in omega (arith, rest)

  -- each of the second comes from one of the first
  pub each-at : (R : X → X → Type 0) (xs ys : List X) (k : ℕ) (y : X) → EachOf R xs ys → slice_get ys k ≡ Some y → (x : X) × (slice_get xs k ≡ Some x) × R x y
  each-at R [] [] k y each at = let no : None ≡ Some y = at in absurd cc
  each-at R [] (z ∷ zs) k y each at = absurd each
  each-at R (x ∷ xs) [] k y each at = absurd each
  each-at R (x ∷ xs) (z ∷ zs) zero y each at = let is : Some z ≡ Some y = at in let same : z ≡ y = cc in (x, refl, subst (R x) same each.0)
  each-at R (x ∷ xs) (z ∷ zs) (suc k) y each at = each-at R xs zs k y each.1 at

  -- and each of the first leads to one of the second
  pub each-to : (R : X → X → Type 0) (xs ys : List X) (k : ℕ) (x : X) → EachOf R xs ys → slice_get xs k ≡ Some x → (y : X) × (slice_get ys k ≡ Some y) × R x y
  each-to R [] ys k x each at = let no : None ≡ Some x = at in absurd cc
  each-to R (z ∷ zs) [] k x each at = absurd each
  each-to R (z ∷ zs) (y ∷ ys) zero x each at = let is : Some z ≡ Some x = at in let same : z ≡ x = cc in (y, refl, subst (λ w. R w y) same each.0)
  each-to R (z ∷ zs) (y ∷ ys) (suc k) x each at = each-to R zs ys k x each.1 at

  pub each-from : (R : X → X → Type 0) (xs ys : List X) → length ys ≡ length xs → ((i : ℕ) (d : X) → i < length xs → R (slice_index_or xs i d) (slice_index_or ys i d)) → EachOf R xs ys
  each-from R [] [] same each = tt
  each-from R [] (y ∷ ys) same each = absurd (omega (arith, same))
  each-from R (x ∷ xs) [] same each = absurd (omega (arith, same))
  each-from R (x ∷ xs) (y ∷ ys) same each = (each zero x (omega arith), each-from R xs ys (omega (arith, same)) (λ i d below. each (suc i) d (omega (arith, below))))

  pub each-all : (R : X → X → Type 0) (A B : X → Type 0) → ((x y : X) → A x → R x y → B y) → (xs ys : List X) → All A xs → EachOf R xs ys → All B ys
  each-all R A B so [] [] all each = All-nil B
  each-all R A B so [] (y ∷ ys) all each = absurd each
  each-all R A B so (x ∷ xs) [] all each = absurd each
  each-all R A B so (x ∷ xs) (y ∷ ys) all each = All-cons B y ys (so x y (All-head A x xs all) each.0) (each-all R A B so xs ys (All-tail A x xs all) each.1)

  -- an element that is so, of all that are
  pub all-at : (A : X → Type 0) (xs : List X) (k : ℕ) (x : X) → All A xs → slice_get xs k ≡ Some x → A x
  all-at A [] k x all at = let no : None ≡ Some x = at in absurd cc
  all-at A (y ∷ ys) zero x all at = let is : Some y ≡ Some x = at in let same : y ≡ x = cc in subst A same (All-head A y ys all)
  all-at A (y ∷ ys) (suc k) x all at = all-at A ys k x (All-tail A y ys all) at

  pub all-from : (A : X → Type 0) (xs : List X) → ((k : ℕ) (x : X) → slice_get xs k ≡ Some x → A x) → All A xs
  all-from A [] each = All-nil A
  all-from A (x ∷ xs) each = All-cons A x xs (each zero x refl) (all-from A xs (λ k y at. each (suc k) y at))
