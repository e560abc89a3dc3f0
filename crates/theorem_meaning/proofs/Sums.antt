-- The sum over the kernels.
use Rattle.std.proofs.Common.{◌≡◌, ◌≢◌, ℕ, zero, suc, ◌+◌, ◌<◌, ◌≤◌, [], refl, ap, arith}
use Rattle.charlotte_packets.specs.declared.picture.PictureWhat.{PictureWhat}
use Rattle.theorem_meaning.specs.Packets.{Links, over_kernels, sum_in, sum_over}

pub over-none : (f : ℕ → ℕ) → ((k : ℕ) → f k ≡ 0) → over_kernels f ≡ 0
unfolding over_kernels
over-none f none = omega (arith, none 0, none 1, none 2, none 3, none 4, none 5, none 6, none 7)

pub over-same : (f g : ℕ → ℕ) → ((k : ℕ) → g k ≡ f k) → over_kernels g ≡ over_kernels f
unfolding over_kernels
over-same f g same = omega (arith, same 0, same 1, same 2, same 3, same 4, same 5, same 6, same 7)

-- where one term changes, the sum changes by as much
pub over-change : (f g : ℕ → ℕ) (k : ℕ) → k < 8 → ((j : ℕ) → j ≢ k → g j ≡ f j) → over_kernels g + f k ≡ over_kernels f + g k
unfolding over_kernels
over-change f g zero below off = omega (arith, off 1 (λ e. omega arith), off 2 (λ e. omega arith), off 3 (λ e. omega arith), off 4 (λ e. omega arith), off 5 (λ e. omega arith), off 6 (λ e. omega arith), off 7 (λ e. omega arith))
over-change f g (suc zero) below off = omega (arith, off 0 (λ e. omega arith), off 2 (λ e. omega arith), off 3 (λ e. omega arith), off 4 (λ e. omega arith), off 5 (λ e. omega arith), off 6 (λ e. omega arith), off 7 (λ e. omega arith))
over-change f g (suc (suc zero)) below off = omega (arith, off 0 (λ e. omega arith), off 1 (λ e. omega arith), off 3 (λ e. omega arith), off 4 (λ e. omega arith), off 5 (λ e. omega arith), off 6 (λ e. omega arith), off 7 (λ e. omega arith))
over-change f g (suc (suc (suc zero))) below off = omega (arith, off 0 (λ e. omega arith), off 1 (λ e. omega arith), off 2 (λ e. omega arith), off 4 (λ e. omega arith), off 5 (λ e. omega arith), off 6 (λ e. omega arith), off 7 (λ e. omega arith))
over-change f g (suc (suc (suc (suc zero)))) below off = omega (arith, off 0 (λ e. omega arith), off 1 (λ e. omega arith), off 2 (λ e. omega arith), off 3 (λ e. omega arith), off 5 (λ e. omega arith), off 6 (λ e. omega arith), off 7 (λ e. omega arith))
over-change f g (suc (suc (suc (suc (suc zero))))) below off = omega (arith, off 0 (λ e. omega arith), off 1 (λ e. omega arith), off 2 (λ e. omega arith), off 3 (λ e. omega arith), off 4 (λ e. omega arith), off 6 (λ e. omega arith), off 7 (λ e. omega arith))
over-change f g (suc (suc (suc (suc (suc (suc zero)))))) below off = omega (arith, off 0 (λ e. omega arith), off 1 (λ e. omega arith), off 2 (λ e. omega arith), off 3 (λ e. omega arith), off 4 (λ e. omega arith), off 5 (λ e. omega arith), off 7 (λ e. omega arith))
over-change f g (suc (suc (suc (suc (suc (suc (suc zero))))))) below off = omega (arith, off 0 (λ e. omega arith), off 1 (λ e. omega arith), off 2 (λ e. omega arith), off 3 (λ e. omega arith), off 4 (λ e. omega arith), off 5 (λ e. omega arith), off 6 (λ e. omega arith))
over-change f g (suc (suc (suc (suc (suc (suc (suc (suc k)))))))) below off = absurd (omega arith)

-- no term is above the sum
pub over-least : (f : ℕ → ℕ) (k : ℕ) → k < 8 → f k ≤ over_kernels f
unfolding over_kernels
over-least f zero below = omega arith
over-least f (suc zero) below = omega arith
over-least f (suc (suc zero)) below = omega arith
over-least f (suc (suc (suc zero))) below = omega arith
over-least f (suc (suc (suc (suc zero)))) below = omega arith
over-least f (suc (suc (suc (suc (suc zero))))) below = omega arith
over-least f (suc (suc (suc (suc (suc (suc zero)))))) below = omega arith
over-least f (suc (suc (suc (suc (suc (suc (suc zero))))))) below = omega arith
over-least f (suc (suc (suc (suc (suc (suc (suc (suc k)))))))) below = absurd (omega arith)

-- the sum where one term alone is not 0
pub over-one : (f : ℕ → ℕ) (k : ℕ) → k < 8 → ((j : ℕ) → j ≢ k → f j ≡ 0) → over_kernels f ≡ f k
over-one f k below none =
    let change : over_kernels f + 0 ≡ over_kernels (λ j. 0) + f k = over-change (λ j. 0) f k below none in
    let zeros : over_kernels (λ j. 0) ≡ 0 = over-none (λ j. 0) (λ j. refl) in
    omega arith

-- the sum over no packets
pub sum_over-none : (f : PictureWhat → ℕ) (w : Links) → ((from to : ℕ) → w.packets from to ≡ []) → sum_over f w ≡ 0
unfolding sum_over
sum_over-none f w none = over-none _ (λ from. over-none _ (λ to. ap (sum_in f) (none from to)))
