-- Lists are the same where `==` tells so.
use Rattle.std.proofs.Common.{◌≡◌, ℕ, ◌==◌, Bool, true, false, true≢false, ◌&&◌, ◌↔◌, IsTrue, List, [], ◌∷◌, refl, sym, ap, ◌∙◌, rules}
use Rattle.std.proofs.Math.Bool.{beq}
use Rattle.std.specs.Cmp.Lexicographic.{pointwise}
use Rattle.std.proofs.lemmas.Bool.{and_from, and_parts, eq-eqb, eqb-true}
use Rattle.charlotte_calls.specs.declared.names.EndId.{EndId}
use Rattle.charlotte_packets.specs.declared.picture.MovingPicture.{MovingPicture}
use Rattle.transcript_matching.specs.Equal.{end_eq, value_eq}

-- a test of two items tells whether they are the same
record Tells {X : Type 0} (eq : X → X → Bool) : Type 0 where
  same : (x y : X) → eq x y ≡ true → x ≡ y
  own : (x : X) → eq x x ≡ true

end_eq-same : (a b : EndId) → end_eq a b ≡ true → a ≡ b
unfolding end_eq
end_eq-same a b h = search rules

end_eq-own : (a : EndId) → end_eq a a ≡ true
unfolding end_eq
end_eq-own a = search rules

split : {p q : Bool} → (p && q) ≡ true → (p ≡ true) × (q ≡ true)
split {p} {q} h = and_parts p q h

and_true : {p q : Bool} → p ≡ true → q ≡ true → (p && q) ≡ true
and_true {p} {q} h k = and_from p q h k

bits-same : (p q : Bool) → beq p q ≡ true → p ≡ q
bits-same true true h = refl
bits-same true false h = absurd (true≢false (sym h))
bits-same false true h = absurd (true≢false (sym h))
bits-same false false h = refl

bits-own : (p : Bool) → beq p p ≡ true
bits-own true = refl
bits-own false = refl

number-own : (m : ℕ) → (m == m) ≡ true
number-own m = eq-eqb m m refl

value_eq-same : (a b : MovingPicture) → value_eq a b ≡ true → a ≡ b
unfolding value_eq end_eq
value_eq-same a b h =
    let on_end = split h in
    let on_hops = split on_end.1 in
    let on_hint = split on_hops.1 in
    let hint = split on_hint.0 in
    let on_sent = split on_hint.1 in
    let on_asked = split on_sent.1 in
    let on_served = split on_asked.1 in
    let on_want = split on_served.1 in
    let on_dead = split on_want.1 in
    let end_is : a.end ≡ b.end = end_eq-same a.end b.end on_end.0 in
    let dead : a.dead ≡ b.dead = bits-same a.dead b.dead on_dead.0 in
    λ i. record {
      end = end_is i;
      hops = eqb-true a.hops b.hops on_hops.0 i;
      hint = (eqb-true a.hint.0 b.hint.0 hint.0 i, eqb-true a.hint.1 b.hint.1 hint.1 i);
      sent = eqb-true a.sent b.sent on_sent.0 i;
      asked = eqb-true a.asked b.asked on_asked.0 i;
      served = eqb-true a.served b.served on_served.0 i;
      want = eqb-true a.want b.want on_want.0 i;
      dead = dead i;
      trail = eqb-true a.trail b.trail on_dead.1 i;
    }

value_eq-own : (a : MovingPicture) → value_eq a a ≡ true
unfolding value_eq end_eq
value_eq-own a =
    and_true (end_eq-own a.end) (and_true (number-own a.hops) (and_true (and_true (number-own a.hint.0) (number-own a.hint.1)) (and_true (number-own a.sent) (and_true (number-own a.asked)
    (and_true (number-own a.served) (and_true (number-own a.want) (and_true (bits-own a.dead) (number-own a.trail))))))))

lists-same : {X : Type 0} (eq : X → X → Bool) → Tells eq → (xs ys : List X) → pointwise eq xs ys ≡ true → xs ≡ ys
lists-same eq tells [] [] h = refl
lists-same eq tells [] (y ∷ ys) h = absurd (true≢false (sym h))
lists-same eq tells (x ∷ xs) [] h = absurd (true≢false (sym h))
lists-same eq tells (x ∷ xs) (y ∷ ys) h =
    let both = and_parts (eq x y) (pointwise eq xs ys) h in λ i. tells.same x y both.0 i ∷ lists-same eq tells xs ys both.1 i

lists-own : {X : Type 0} (eq : X → X → Bool) → Tells eq → (xs : List X) → pointwise eq xs xs ≡ true
lists-own eq tells [] = refl
lists-own eq tells (x ∷ xs) = λ i. tells.own x i && lists-own eq tells xs i

lists-tell : {X : Type 0} (eq : X → X → Bool) → Tells eq → (r : Bool) (xs ys seen other : List X) → seen ≡ xs → other ≡ ys → r ≡ pointwise eq seen other → IsTrue r ↔ (xs ≡ ys)
lists-tell eq tells r xs ys seen other first second is =
    let told : r ≡ pointwise eq xs ys = is ∙ (λ i. pointwise eq (first i) (second i)) in
    ((λ h. lists-same eq tells xs ys (sym told ∙ h)), (λ same. told ∙ ap (pointwise eq xs) (sym same) ∙ lists-own eq tells xs))

pub ends-tell : (r : Bool) (xs ys seen other : List EndId) → seen ≡ xs → other ≡ ys → r ≡ pointwise end_eq seen other → IsTrue r ↔ (xs ≡ ys)
ends-tell = lists-tell end_eq (record { same = end_eq-same; own = end_eq-own })

pub values-tell : (r : Bool) (xs ys seen other : List MovingPicture) → seen ≡ xs → other ≡ ys → r ≡ pointwise value_eq seen other → IsTrue r ↔ (xs ≡ ys)
values-tell = lists-tell value_eq (record { same = value_eq-same; own = value_eq-own })
