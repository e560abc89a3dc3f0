-- Sums over the kernels, and the entries of a merge.
use Rattle.std.proofs.Common.{◌≡◌, ◌≢◌, ◌⊎◌, inl, inr, ℕ, zero, suc, ◌+◌, ◌*◌, ◌<◌, ◌≤◌, true, false, nat_eq, nat_le, List, [], ◌∷◌, length, ap, sym, subst, ◌∙◌, arith}
use Rattle.std.proofs.lemmas.Bool.Decides.{eqb_tells, leb_tells}
use Rattle.kernel_entries.specs.Order.{of_kernel}
use Rattle.kernel_entries.specs.declared.entry.Placed.{Placed}
use Rattle.kernel_turns.specs.Nodes.{sum_of}
use Rattle.kernel_turns.proofs.Together.{of_kernel-other, of_kernel-own}

pub sum-less : (n : ℕ) (f g : ℕ → ℕ) → ((i : ℕ) → i < n → f i ≤ g i) → sum_of n f ≤ sum_of n g
sum-less zero f g each = omega arith
sum-less (suc n) f g each = let before : sum_of n f ≤ sum_of n g = sum-less n f g (λ i below. each i (omega (arith, below))) in let here : f n ≤ g n = each n (omega arith) in omega (arith, before, here)

pub sum-at_most : (n : ℕ) (f : ℕ → ℕ) → ((i : ℕ) → i < n → f i ≤ 100000) → sum_of n f ≤ n * 100000
sum-at_most zero f each = omega arith
sum-at_most (suc n) f each =
    let before : sum_of n f ≤ n * 100000 = sum-at_most n f (λ i below. each i (omega (arith, below))) in
    let here : f n ≤ 100000 = each n (omega arith) in
    omega (arith, before, here)

-- one of the numbers is more
pub sum-more : (n k : ℕ) (f g : ℕ → ℕ) → k < n → ((i : ℕ) → i < n → f i ≤ g i) → f k < g k → sum_of n f < sum_of n g
sum-more zero k f g below each more = absurd (omega (arith, below))
sum-more (suc n) k f g below each more = by (eqb_tells k n) (λ less. sum-more n k f g less (λ i under. each i (omega (arith, under))) more)
  where
    before : (i : ℕ) → i < n → f i ≤ g i
    before i less = each i (omega (arith, less))

    by : ((nat_eq k n ≡ true) × (k ≡ n)) ⊎ ((nat_eq k n ≡ false) × (k ≢ n)) → (k < n → sum_of n f < sum_of n g) → sum_of (suc n) f < sum_of (suc n) g
    by (inl e) on =
        let rest : sum_of n f ≤ sum_of n g = sum-less n f g before in
        let here : f n < g n = subst (λ i. f i < g i) e.1 more in
        omega (arith, rest, here)
    by (inr e) on =
        let less : k < n = grind (arith, below, e.1) in
        let rest : sum_of n f < sum_of n g = on less in
        let here : f n ≤ g n = each n (omega arith) in
        omega (arith, rest, here)

-- a merge has the entries of the kernels that are there, and no others
pub merged-few : (n : ℕ) (ps : List Placed) → ((k : ℕ) → n ≤ k → of_kernel k ps ≡ []) → length ps ≤ sum_of n (λ k. length (of_kernel k ps))
merged-few n [] none = omega arith
merged-few n (p ∷ ps) none =
    let rest : length ps ≤ sum_of n (λ k. length (of_kernel k ps)) = merged-few n ps (λ k far. later k far (eqb_tells k p.kernel)) in
    let more : sum_of n (λ k. length (of_kernel k ps)) < sum_of n (λ k. length (of_kernel k (p ∷ ps)))
    = sum-more n p.kernel (λ k. length (of_kernel k ps)) (λ k. length (of_kernel k (p ∷ ps))) (there (leb_tells n p.kernel)) (λ k below. each k (eqb_tells k p.kernel)) (omega (arith, own)) in
    omega (arith, rest, more)
  where
    own : length (of_kernel p.kernel (p ∷ ps)) ≡ length (of_kernel p.kernel ps) + 1
    own = ap length (of_kernel-own p ps) ∙ (omega arith)

    there : ((nat_le n p.kernel ≡ true) × (n ≤ p.kernel)) ⊎ ((nat_le n p.kernel ≡ false) × (p.kernel < n)) → p.kernel < n
    there (inl far) = let no : p.entry ∷ of_kernel p.kernel ps ≡ [] = sym (of_kernel-own p ps) ∙ none p.kernel far.1 in absurd cc
    there (inr near) = near.1

    later : (k : ℕ) → n ≤ k → ((nat_eq k p.kernel ≡ true) × (k ≡ p.kernel)) ⊎ ((nat_eq k p.kernel ≡ false) × (k ≢ p.kernel)) → of_kernel k ps ≡ []
    later k far (inl e) = let below : p.kernel < n = there (leb_tells n p.kernel) in absurd (omega (arith, below, far, e.1))
    later k far (inr e) = sym (of_kernel-other k p ps e.1) ∙ none k far

    each : (k : ℕ) → ((nat_eq k p.kernel ≡ true) × (k ≡ p.kernel)) ⊎ ((nat_eq k p.kernel ≡ false) × (k ≢ p.kernel)) → length (of_kernel k ps) ≤ length (of_kernel k (p ∷ ps))
    each k (inl e) = subst (λ j. length (of_kernel j ps) ≤ length (of_kernel j (p ∷ ps))) (sym e.1) (omega (arith, own))
    each k (inr e) = omega (arith, ap length (of_kernel-other k p ps e.1))
