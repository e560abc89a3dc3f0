-- Sums of numbers, compared.
use Rattle.std.proofs.Common.{◌≡◌, ◌≢◌, ◌⊎◌, inl, inr, ℕ, zero, suc, ◌+◌, ◌<◌, ◌≤◌, true, false, nat_eq, nat_lt, refl, subst, arith}
use Rattle.std.proofs.lemmas.Bool.Decides.{eqb_tells, leb_tells}
use Rattle.kernel_turns.proofs.Stepping.{one_at, sum-one, sum-past}
use Rattle.kernel_turns.specs.Nodes.{sum_of}

pub sum-fewer : (n : ℕ) (f g : ℕ → ℕ) → ((i : ℕ) → f i ≤ g i) → sum_of n f ≤ sum_of n g
sum-fewer zero f g fewer = omega arith
sum-fewer (suc n) f g fewer = omega (arith, sum-fewer n f g fewer, fewer n)

pub sum-less : (n i : ℕ) (f g : ℕ → ℕ) → ((i : ℕ) → f i ≤ g i) → i < n → f i < g i → sum_of n f < sum_of n g
sum-less zero i f g fewer below less = absurd (omega (arith, below))
sum-less (suc n) i f g fewer below less = by (eqb_tells i n) (λ there. sum-less n i f g fewer there less)
  where
    by : ((nat_eq i n ≡ true) × (i ≡ n)) ⊎ ((nat_eq i n ≡ false) × (i ≢ n)) → (i < n → sum_of n f < sum_of n g) → sum_of (suc n) f < sum_of (suc n) g
    by (inl e) on = let here : f n < g n = subst (λ j. f j < g j) e.1 less in omega (arith, sum-fewer n f g fewer, here)
    by (inr e) on = let there : i < n = grind (arith, below, e.1) in omega (arith, on there, fewer n)

pub sum-both : (n : ℕ) (f g : ℕ → ℕ) → sum_of n (λ i. f i + g i) ≡ sum_of n f + sum_of n g
sum-both zero f g = refl
sum-both (suc n) f g = omega (arith, sum-both n f g)

pub sum-none : (n : ℕ) → sum_of n (λ i. 0) ≡ 0
sum-none zero = refl
sum-none (suc n) = omega (arith, sum-none n)

pub sum-ones : (n : ℕ) (f : ℕ → ℕ) → ((i : ℕ) → f i ≤ 1) → sum_of n f ≤ n
sum-ones zero f ones = omega arith
sum-ones (suc n) f ones = omega (arith, sum-ones n f ones, ones n)

pub sum-at : (n place : ℕ) (f : ℕ → ℕ) → sum_of n (one_at place f) ≤ sum_of n f + 1
sum-at n place f = by (leb_tells (suc place) n)
  where
    by : ((nat_lt place n ≡ true) × (place < n)) ⊎ ((nat_lt place n ≡ false) × (n < suc place)) → sum_of n (one_at place f) ≤ sum_of n f + 1
    by (inl e) = omega (arith, sum-one n place f e.1)
    by (inr e) = omega (arith, sum-past n place f (omega (arith, e.1)))
