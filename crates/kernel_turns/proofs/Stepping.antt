-- A list of which one element is set; a sum of which one number is one more.
use Rattle.std.proofs.Common.{◌≡◌, ◌≢◌, ◌⊎◌, inl, inr, ℕ, zero, suc, ◌+◌, ◌<◌, ◌≤◌, true, false, nat_eq, if◌then◌else◌, List, [], ◌∷◌, Some, set, length, refl, ap, arith}
use Rattle.std.specs.Prelude.{slice_get}
use Rattle.std.proofs.lemmas.Bool.Decides.{eqb_tells}
use Rattle.kernel_turns.specs.Nodes.{sum_of}

pub got-same : {X : Type 0} (xs : List X) (i : ℕ) (y : X) → i < length xs → slice_get (set xs i y) i ≡ Some y
got-same [] i y below = absurd (omega (arith, below))
got-same (x ∷ xs) zero y below = refl
got-same (x ∷ xs) (suc i) y below = got-same xs i y (omega (arith, below))

pub got-other : {X : Type 0} (xs : List X) (i j : ℕ) (y : X) → j ≢ i → slice_get (set xs i y) j ≡ slice_get xs j
got-other [] i j y other = refl
got-other (x ∷ xs) zero zero y other = absurd (other refl)
got-other (x ∷ xs) zero (suc j) y other = refl
got-other (x ∷ xs) (suc i) zero y other = refl
got-other (x ∷ xs) (suc i) (suc j) y other = got-other xs i j y (λ e. other (ap suc e))

-- one more at a place
abbrev pub one_at : ℕ → (ℕ → ℕ) → ℕ → ℕ
one_at place f i = if nat_eq i place then f i + 1 else f i

pub sum-past : (n place : ℕ) (f : ℕ → ℕ) → n ≤ place → sum_of n (one_at place f) ≡ sum_of n f
sum-past zero place f past = refl
sum-past (suc n) place f past = by (eqb_tells n place) (sum-past n place f (omega (arith, past)))
  where
    by : ((nat_eq n place ≡ true) × (n ≡ place)) ⊎ ((nat_eq n place ≡ false) × (n ≢ place)) → sum_of n (one_at place f) ≡ sum_of n f → sum_of (suc n) (one_at place f) ≡ sum_of (suc n) f
    by (inl e) rest = absurd (omega (arith, past, e.1))
    by (inr e) rest = let here : one_at place f n ≡ f n = ap (λ b. if b then f n + 1 else f n) e.0 in omega (arith, rest, here)

pub sum-one : (n place : ℕ) (f : ℕ → ℕ) → place < n → sum_of n (one_at place f) ≡ sum_of n f + 1
sum-one zero place f below = absurd (omega (arith, below))
sum-one (suc n) place f below = by (eqb_tells n place) (λ less. sum-one n place f less)
  where
    by : ((nat_eq n place ≡ true) × (n ≡ place)) ⊎ ((nat_eq n place ≡ false) × (n ≢ place)) → (place < n → sum_of n (one_at place f) ≡ sum_of n f + 1)
        → sum_of (suc n) (one_at place f) ≡ sum_of (suc n) f + 1
    by (inl e) on =
        let rest : sum_of n (one_at place f) ≡ sum_of n f = sum-past n place f (omega (arith, e.1)) in
        let here : one_at place f n ≡ f n + 1 = ap (λ b. if b then f n + 1 else f n) e.0 in
        omega (arith, rest, here)
    by (inr e) on =
        let less : place < n = grind (arith, below, e.1) in
        let rest : sum_of n (one_at place f) ≡ sum_of n f + 1 = on less in
        let here : one_at place f n ≡ f n = ap (λ b. if b then f n + 1 else f n) e.0 in
        omega (arith, rest, here)
