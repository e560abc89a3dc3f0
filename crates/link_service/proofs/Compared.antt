-- When two reports are the same, and which is the oldest.
use Rattle.std.proofs.Common.{◌≡◌, Bool, true, false, true≢false, ◌&&◌, ◌↔◌, IsTrue, List, [], ◌∷◌, refl, sym, ap, ◌∙◌, rules}
use Rattle.std.specs.Cmp.Lexicographic.{pointwise}
use Rattle.charlotte_calls.specs.declared.names.EndId.{EndId}
use Rattle.service_links.proofs.Changed.{end_eq-same}
use Rattle.service_step.specs.Ends.{end_eq}

end_eq-refl : (e : EndId) → end_eq e e ≡ true
unfolding end_eq
end_eq-refl e = search rules

first_two : (a b : Bool) → (a && b) ≡ true → (a ≡ true) × (b ≡ true)
first_two true b h = (refl, h)
first_two false b h = absurd (true≢false (sym h))

-- lists of ends are the same where `==` tells so
ends-same : (xs ys : List EndId) → pointwise end_eq xs ys ≡ true → xs ≡ ys
ends-same [] [] h = refl
ends-same [] (y ∷ ys) h = absurd (true≢false (sym h))
ends-same (x ∷ xs) [] h = absurd (true≢false (sym h))
ends-same (x ∷ xs) (y ∷ ys) h =
    let both = first_two (end_eq x y) (pointwise end_eq xs ys) h in λ i. end_eq-same x y both.0 i ∷ ends-same xs ys both.1 i

ends-refl : (xs : List EndId) → pointwise end_eq xs xs ≡ true
ends-refl [] = refl
ends-refl (x ∷ xs) = λ i. end_eq-refl x i && ends-refl xs i

pub ends-tell : (r : Bool) (xs ys seen other : List EndId) → seen ≡ xs → other ≡ ys → r ≡ pointwise end_eq seen other → IsTrue r ↔ (xs ≡ ys)
ends-tell r xs ys seen other first second is =
    let tells : r ≡ pointwise end_eq xs ys = is ∙ (λ i. pointwise end_eq (first i) (second i)) in
    ((λ h. ends-same xs ys (sym tells ∙ h)), (λ same. tells ∙ ap (pointwise end_eq xs) (sym same) ∙ ends-refl xs))
