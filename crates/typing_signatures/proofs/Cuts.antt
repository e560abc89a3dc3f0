-- Texts whose parts end at a sign that stands in no part.
use Rattle.std.proofs.Common.{◌≡◌, ℕ, ◌<◌, ◌≤◌, List, [], ◌∷◌, ◌++◌, refl, sym, arith}
use Rattle.std.specs.List.{AllByRecursion}

-- each byte is above the sign
abbrev pub Above : ℕ → List ℕ → Type 0
Above sign bytes = AllByRecursion (λ b. sign < b) bytes

-- nothing follows, or a byte that is not above the sign
abbrev pub Stops : ℕ → List ℕ → Type 0
Stops sign [] = Unit {0}
Stops sign (b ∷ bs) = b ≤ sign

no_more : (sign : ℕ) (rs : List ℕ) (y : ℕ) (ys : List ℕ) → Stops sign rs → sign < y → rs ≡ y ∷ ys → ⊥
no_more sign [] y ys stops above e = cc
no_more sign (r ∷ rs) y ys stops above e = let same : r ≡ y = cc in omega (arith, stops, above, same)

-- a part is told by the text, and so is what follows it
pub cut : (sign : ℕ) (xs ys rs ss : List ℕ) → Above sign xs → Above sign ys → Stops sign rs → Stops sign ss → xs ++ rs ≡ ys ++ ss
    → (xs ≡ ys) × (rs ≡ ss)
cut sign [] [] rs ss xs-above ys-above rs-stops ss-stops e = (refl, e)
cut sign [] (y ∷ ys) rs ss xs-above ys-above rs-stops ss-stops e = absurd (no_more sign rs y (ys ++ ss) rs-stops ys-above.0 e)
cut sign (x ∷ xs) [] rs ss xs-above ys-above rs-stops ss-stops e = absurd (no_more sign ss x (xs ++ rs) ss-stops xs-above.0 (sym e))
cut sign (x ∷ xs) (y ∷ ys) rs ss xs-above ys-above rs-stops ss-stops e =
    let others = cut sign xs ys rs ss xs-above.1 ys-above.1 rs-stops ss-stops (cc) in
    let first : x ≡ y = cc in
    ((λ i. first i ∷ others.0 i), others.1)

pub above_both : (sign : ℕ) (xs ys : List ℕ) → Above sign xs → Above sign ys → Above sign (xs ++ ys)
above_both sign [] ys first second = second
above_both sign (x ∷ xs) ys first second = (first.0, above_both sign xs ys first.1 second)

pub above_lower : (high low : ℕ) (xs : List ℕ) → low ≤ high → Above high xs → Above low xs
above_lower high low [] le above = tt
above_lower high low (x ∷ xs) le above = (omega (arith, le, above.0), above_lower high low xs le above.1)
