-- The outermost of open requests.
use Rattle.std.proofs.Common.{◌≡◌, ℕ, ◌-◌, List, ◌++◌, length, min, take, drop, reverse, sym, ap, ◌∙◌, arith, length-drop}
use Rattle.std.proofs.Math.Seq.{drop-append_seam}
use Rattle.std.proofs.lemmas.List.{drop_min, length-reverse, reverse-append, take-append-drop}

-- they stand first in a list whose last item is the innermost one
pub truncated : (k : ℕ) (xs : List ℕ) → reverse (take k xs) ≡ drop (length (reverse xs) - k) (reverse xs)
truncated k xs =
    let turned : reverse xs ≡ reverse (drop k xs) ++ reverse (take k xs) = ap reverse (sym (take-append-drop k xs)) ∙ reverse-append (take k xs) (drop k xs) in
    let size : length (reverse (drop k xs)) ≡ length (reverse xs) - k = omega (arith, length-reverse (drop k xs), length-reverse xs, length-drop k xs) in
    sym (drop-append_seam (reverse (drop k xs)) (reverse (take k xs)))
    ∙ ap (λ (n : ℕ). drop n (reverse (drop k xs) ++ reverse (take k xs))) size
    ∙ ap (λ (ys : List ℕ). drop (length (reverse xs) - k) ys) (sym turned)

-- without so many of the innermost ones
pub innermost : (k : ℕ) (xs : List ℕ) → drop (length xs - (length xs - k)) xs ≡ drop k xs
innermost k xs =
    let fewer : length xs - (length xs - k) ≡ min k (length xs) = omega arith in
    ap (λ (n : ℕ). drop n xs) fewer ∙ drop_min k xs
